-- The joint effect of the harts of a crew.
use Rattle.std.proofs.Common.{◌≡◌, ◌<◌, ◌∙◌, ◌-◌, ℕ, zero, suc, List, [], ◌∷◌, length, reverse, map, get_or, slice_set, slice_index_or, Option, Some, IfSome, ap, sym, subst, refl, arith}
use Rattle.std.specs.List.{All, AllZip}
use Rattle.std.proofs.lemmas.List.{get_or-map, length-map, length-reverse, get_or-reverse}
use Rattle.std.proofs.lemmas.List.Elements.{AllZip-get_or}
use Rattle.std.proofs.lemmas.Slice.Zip.{AllZip-long}
use Rattle.transfer_table.specs.Plan.{Plan}
use Rattle.hart_port.specs.PortView.{PortView}
use Rattle.array_jobs.specs.Jobs.{JobParts}
use Rattle.array_jobs.specs.PieceParts.{PieceParts}
use Rattle.hart_loop.specs.declared.hart.Hart.{Hart}
use Rattle.hart_loop.specs.Harts.{HasRun, AllStart, AreSame, HaveRun, AreTheSame}

-- ---- lists

-- Two lists are related if their items are, index by index.
pub zip_all : {A : Type 0} (R : A → A → Type 0) (xs ys : List A) → length ys ≡ length xs → ((k : ℕ) (d : A) → k < length xs → R (get_or xs k d) (get_or ys k d)) → AllZip R xs ys
zip_all R [] [] l f = tt
zip_all R [] (y ∷ ys) l f = absurd (omega (arith, l))
zip_all R (x ∷ xs) [] l f = absurd (omega (arith, l))
zip_all R (x ∷ xs) (y ∷ ys) l f = (f 0 x (omega arith), zip_all R xs ys (omega (arith, l)) (λ k d h. f (suc k) d (omega arith)))

module _ {A B : Type 0} (f : A → B) where
  -- Two lists of images are related if the images are, index by index.
  pub zip_map : (R : B → B → Type 0) (xs ys : List A) → AllZip (λ x y. R (f x) (f y)) xs ys → AllZip R (map f xs) (map f ys)
  zip_map R [] [] z = tt
  zip_map R [] (y ∷ ys) z = absurd z
  zip_map R (x ∷ xs) [] z = absurd z
  zip_map R (x ∷ xs) (y ∷ ys) z = (z.0, zip_map R xs ys z.1)

  -- A property of all images holds of all items.
  pub all_of_map : (F : B → Type 0) (xs : List A) → All F (map f xs) → All (λ x. F (f x)) xs
  all_of_map F xs all k d below = subst F (get_or-map f xs k d (f d) below) (all k (f d) (omega (arith, below, length-map xs f)))

-- A property of all items holds of all in reverse order.
pub all_reversed : {A : Type 0} (F : A → Type 0) (xs : List A) → All F xs → All F (reverse xs)
all_reversed F xs all k d below =
    let turned : length (reverse xs) ≡ length xs = length-reverse xs in
    subst F (sym (get_or-reverse xs k d (omega (arith, below, turned)))) (all (length xs - 1 - k) d (omega (arith, below, turned)))

-- ---- harts

abbrev pub port_of : {P S : Type 0} → Hart P S → P
port_of hart = hart.port

module _ {P S : Type 0} (seen : P → PortView) where
  -- Harts that have run are the same harts.
  have_run : (xs ys : List (Hart P S)) → HaveRun seen xs ys → AreTheSame seen xs ys
  have_run [] [] ran = tt
  have_run [] (y ∷ ys) ran = absurd ran
  have_run (x ∷ xs) [] ran = absurd ran
  have_run (x ∷ xs) (y ∷ ys) ran = ((ran.0.same, ran.0.lent), have_run xs ys ran.1)

  -- A hart with a job starts in the base, too.
  pub starts_with : (tree : Plan) (xs : List (Hart P S)) (d : Hart P S) (j : JobParts) → 0 < length xs → AllStart (λ hart. seen hart.port) tree xs
      → AllStart (λ hart. seen hart.port) tree (slice_set xs 0 (record (slice_index_or xs 0 d) { job = Some j }))
  starts_with tree [] d j some all k e below = absurd (omega (arith, some))
  starts_with tree (x ∷ xs) d j some all zero e below = all 0 e below
  starts_with tree (x ∷ xs) d j some all (suc k) e below = all (suc k) e below

  -- The harts have run, with a job given to the first before and its piece taken after.
  pub crew_ran : (xs ys : List (Hart P S)) (d e : Hart P S) (j : JobParts) (piece : Option PieceParts) → 0 < length xs
      → HaveRun seen (slice_set xs 0 (record (slice_index_or xs 0 d) { job = Some j })) ys
      → AreTheSame seen xs (slice_set ys 0 (record (slice_index_or ys 0 e) { piece = piece }))
  crew_ran [] ys d e j piece some ran = absurd (omega (arith, some))
  crew_ran (x ∷ xs) [] d e j piece some ran = absurd ran
  crew_ran (x ∷ xs) (y ∷ ys) d e j piece some ran = ((ran.0.same, ran.0.lent), have_run xs ys ran.1)

  -- The first hart's piece, if there is one, is that of its job.
  pub first_made : (xs ys : List (Hart P S)) (d e : Hart P S) (j : JobParts) → 0 < length xs
      → HaveRun seen (slice_set xs 0 (record (slice_index_or xs 0 d) { job = Some j })) ys
      → IfSome (slice_index_or ys 0 e).piece (λ k. k.job ≡ j)
  first_made [] ys d e j some ran = absurd (omega (arith, some))
  first_made (x ∷ xs) [] d e j some ran = absurd ran
  first_made (x ∷ xs) (y ∷ ys) d e j some ran = ran.0.piece j refl

  -- Harts that have run in reverse order have run.
  pub run_reversed : (xs ys : List (Hart P S)) → HaveRun seen (reverse xs) ys → HaveRun seen xs (reverse ys)
  run_reversed xs ys ran =
      let turned : length (reverse xs) ≡ length xs = length-reverse xs in
      let back : length (reverse ys) ≡ length ys = length-reverse ys in
      let long : length ys ≡ length (reverse xs) = AllZip-long _ (reverse xs) ys ran in
      zip_all _ xs (reverse ys) (back ∙ long ∙ turned) (λ k d below.
      let inside : length xs - 1 - k < length (reverse xs) = omega (arith, below, turned) in
      let there : length ys - 1 - k ≡ length xs - 1 - k = ap (λ n. n - 1 - k) (long ∙ turned) in
      let before : get_or (reverse xs) (length xs - 1 - k) d ≡ get_or xs k d =
      get_or-reverse xs (length xs - 1 - k) d (omega (arith, below)) ∙ ap (λ i. get_or xs i d) (omega (arith, below)) in
      let after : get_or (reverse ys) k d ≡ get_or ys (length xs - 1 - k) d = get_or-reverse ys k d (omega (arith, below, long, turned)) ∙ ap (λ i. get_or ys i d) there in
      subst (λ x. HasRun (seen x.port) x.sites.hart_local x.job (seen (get_or (reverse ys) k d).port) (get_or (reverse ys) k d).sites.hart_local (get_or (reverse ys) k d).piece) before
      (subst (λ y. HasRun (seen (get_or (reverse xs) (length xs - 1 - k) d).port) (get_or (reverse xs) (length xs - 1 - k) d).sites.hart_local (get_or (reverse xs) (length xs - 1 - k) d).job (seen y.port) y.sites.hart_local y.piece) (sym after)
      (AllZip-get_or _ (reverse xs) ys (length xs - 1 - k) d d ran inside)))

  -- The same harts have the same ports.
  pub ports_stay : (xs ys : List (Hart P S)) → AreTheSame seen xs ys → AreSame seen (map port_of xs) (map port_of ys)
  ports_stay [] [] same = tt
  ports_stay [] (y ∷ ys) same = absurd same
  ports_stay (x ∷ xs) [] same = absurd same
  ports_stay (x ∷ xs) (y ∷ ys) same = (same.0.0, ports_stay xs ys same.1)

  -- The same harts have the same hart-local states.
  pub rows_stay : (xs ys : List (Hart P S)) → AreTheSame seen xs ys → map (λ hart. hart.sites.hart_local.rows) ys ≡ map (λ hart. hart.sites.hart_local.rows) xs
  rows_stay [] [] same = refl
  rows_stay [] (y ∷ ys) same = absurd same
  rows_stay (x ∷ xs) [] same = absurd same
  rows_stay (x ∷ xs) (y ∷ ys) same = λ i. (same.0.1 i).rows ∷ rows_stay xs ys same.1 i

  pub seats_stay : (xs ys : List (Hart P S)) → AreTheSame seen xs ys → map (λ hart. hart.sites.hart_local.seat) ys ≡ map (λ hart. hart.sites.hart_local.seat) xs
  seats_stay [] [] same = refl
  seats_stay [] (y ∷ ys) same = absurd same
  seats_stay (x ∷ xs) [] same = absurd same
  seats_stay (x ∷ xs) (y ∷ ys) same = λ i. (same.0.1 i).seat ∷ seats_stay xs ys same.1 i
