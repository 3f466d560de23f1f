-- If each member's recorded stretches don't clash with those of higher members in earlier phases, no two pieces cross.
use Rattle.std.proofs.Common.{◌≡◌, ℕ, zero, suc, ◌+◌, ◌-◌, ◌<◌, ◌≤◌, Bool, true, false, List, [], ◌∷◌, map, length, get_or, Some, None, ℤ, ◌≤ℤ◌, ◌<ℤ◌, refl, sym, ap, subst, ◌∙◌, ⊎_elim, inl, arith}
use Rattle.std.specs.Prelude.{slice_get}
use Rattle.std.proofs.lemmas.Bool.{cases_lt}
use Rattle.std.proofs.lemmas.Int.{ints}
use Rattle.array_tree.specs.declared.tree.Block.{Block}
use Rattle.array_tree.specs.Trees.{Sequences, no_more, beside, sequence_of, sequences}
use Rattle.array_meaning.specs.Stores.{Arrays, Vars, cells_of}
use Rattle.array_meaning.specs.Steps.{Steps}
use Rattle.array_meaning.specs.Work.{Work, turns, span, loop, sequence_work}
use Rattle.array_meaning.specs.Members.{first_of, start_of, member_work, member_works}
use Rattle.array_meaning.specs.Sites.{phase_rounds}
use Rattle.array_meaning.specs.Touch.{walk, IsSeparate}
use Rattle.array_meaning.proofs.MemberLemmas.{first_of_far}
use Rattle.touch_bounds.specs.declared.interval.Interval.{Interval}
use Rattle.touch_bounds.specs.declared.touch.Touch.{Touch}
use Rattle.touch_bounds.specs.Intervals.{LiesIn}
use Rattle.touch_bounds.specs.Ranges.{Bounds, AreWithin}
use Rattle.touch_bounds.specs.Touches.{Widens, AreVisitsNoted, IsWorkNoted}
use Rattle.touch_bounds.proofs.PieceLemmas.{clear_apart}
use Rattle.touch_bounds.proofs.NotedLemmas.{noted_wider}
use Rattle.touch_bounds.proofs.WorkLemmas.{loop_noted}
use Rattle.site_walk.proofs.PieceLemmas.{first_none}
use Rattle.phase_order.specs.Crossings.{IsPiece, HasNoCrossing}
use Rattle.phase_order.specs.Tests.{crosses, crossing}
use Rattle.phase_order.proofs.Rows.{entry_within}
use Rattle.phase_order.proofs.Tests.{tested}
use Rattle.pipe_walk.specs.Inside.Stretches.{AreTurnsNoted, AreClear, IsMemberAlwaysClear, HasNeverCrossing}

-- ---- turns of a loop

some_turn : (from to : ℤ) (n : ℕ) → span from to ≡ suc n → from <ℤ to
some_turn from to n e = grind (arith, ints)

pub turns_noted : (arrays : Arrays) (t : List Touch) (bounds : Bounds) (var : List ℕ) (low high : ℤ) (within : Interval) (body : Work) →
    ((x : ℤ) → low ≤ℤ x → x <ℤ high → LiesIn within x) → IsWorkNoted arrays t ((var, within) ∷ bounds) body → AreTurnsNoted arrays t bounds var low high body
turns_noted arrays t bounds var low high within body lies noted from to starts ends vars inside = cases (span from to) refl
  where
    cases : (n : ℕ) → span from to ≡ n → AreVisitsNoted arrays t (walk arrays (loop var from to body vars))
    cases zero e = subst (λ n. AreVisitsNoted arrays t (walk arrays (turns (λ x. body ((var, x) ∷ vars)) from n))) (sym e) tt
    cases (suc n) e =
        let some = some_turn from to n e in
        loop_noted arrays t bounds var from to within body some (λ x a b. lies x (omega (arith, ints)) (omega (arith, ints))) noted vars inside

-- A loop without turns.
pub no_turns_noted : (arrays : Arrays) (t : List Touch) (bounds : Bounds) (var : List ℕ) (low high : ℤ) (body : Work) → high ≤ℤ low → AreTurnsNoted arrays t bounds var low high body
no_turns_noted arrays t bounds var low high body none from to starts ends vars inside =
    let nothing : span from to ≡ 0 = grind (arith, ints) in
    subst (λ n. AreVisitsNoted arrays t (walk arrays (turns (λ x. body ((var, x) ∷ vars)) from n))) (sym nothing) tt

-- ---- pieces of members

-- A later member begins no earlier.
start_rises : (low high : ℤ) (m j k : ℕ) → j ≤ k → start_of low high m j ≤ℤ start_of low high m k
start_rises low high m j k h =
    let there : j + (k - j) ≡ k = omega arith in
    let far : first_of (span low high) m j ≤ first_of (span low high) m k = rw there at (first_of_far (span low high) m j (k - j)) in
    omega (arith, ints)

member_at : (var : List ℕ) (low high : ℤ) (m : ℕ) (body : Work) (j k : ℕ) (vars : Vars) (i : ℕ) (piece : Steps) → slice_get (member_works var low high m body j k vars) i ≡ Some piece →
    (i < k) × (piece ≡ member_work var low high m body (j + i) vars)
member_at var low high m body j zero vars i piece e = absurd (cc)
member_at var low high m body j (suc k) vars zero piece e =
    let here : j + 0 ≡ j = omega arith in
    let same : member_work var low high m body j vars ≡ piece = cc in
    (omega arith, sym same ∙ ap (λ i. member_work var low high m body i vars) (sym here))
member_at var low high m body j (suc k) vars (suc i) piece e =
    let rest = member_at var low high m body (j + 1) k vars i piece e in
    let less = rest.0 in
    let there : j + 1 + i ≡ j + suc i = omega arith in
    (omega arith, rest.1 ∙ ap (λ n. member_work var low high m body n vars) there)

abbrev pub rounds_in : List Block → List ℕ → ℤ → ℤ → ℕ → Vars → List (List Steps)
rounds_in bs var low high m vars = phase_rounds (sequences (map sequence_of bs)) var low high m vars

-- The piece of a member in a phase.
pub piece_at : (bs : List Block) (var : List ℕ) (low high : ℤ) (m : ℕ) (vars : Vars) (d : Block) (j k : ℕ) (piece : Steps) → IsPiece (rounds_in bs var low high m vars) j k piece →
    (k < length bs) × (j < m) × (piece ≡ member_work var low high m (sequence_work (sequence_of (get_or bs k d))) j vars)
piece_at [] var low high m vars d j k piece e = absurd (cc)
piece_at (b ∷ bs) var low high m vars d j zero piece e =
    let found = member_at var low high m (sequence_work (sequence_of b)) 0 m vars j piece e in
    let here : 0 + j ≡ j = omega arith in
    (omega arith, found.0, found.1 ∙ ap (λ n. member_work var low high m (sequence_work (sequence_of b)) n vars) here)
piece_at (b ∷ bs) var low high m vars d j (suc k) piece e =
    let rest = piece_at bs var low high m vars d j k piece e in
    let less = rest.0 in
    (omega arith, rest.1, rest.2)

-- The stretches of a member's own turns.
pub own_noted : (arrays : Arrays) (t : List Touch) (bounds : Bounds) (bs : List Block) (var : List ℕ) (low high : ℤ) (m : ℕ) (d : Block) (j k : ℕ) →
    AreTurnsNoted arrays t bounds var (start_of low high m j) (start_of low high m (j + 1)) (sequence_work (sequence_of (get_or bs k d))) →
    (vars : Vars) → AreWithin bounds vars → (piece : Steps) → IsPiece (rounds_in bs var low high m vars) j k piece → AreVisitsNoted arrays t (walk arrays piece)
own_noted arrays t bounds bs var low high m d j k noted vars inside piece e =
    let found = piece_at bs var low high m vars d j k piece e in
    subst (λ p. AreVisitsNoted arrays t (walk arrays p)) (sym found.2)
    (noted (start_of low high m j) (start_of low high m (j + 1)) (omega (arith, ints)) (omega (arith, ints)) vars inside)

-- The stretches of the turns of all higher members.
pub above_noted : (arrays : Arrays) (t : List Touch) (bounds : Bounds) (bs : List Block) (var : List ℕ) (low high : ℤ) (m : ℕ) (d : Block) (j k : ℕ) →
    AreTurnsNoted arrays t bounds var (start_of low high m (j + 1)) (start_of low high m m) (sequence_work (sequence_of (get_or bs k d))) →
    (vars : Vars) → AreWithin bounds vars → (above : ℕ) (piece : Steps) → j < above → IsPiece (rounds_in bs var low high m vars) above k piece →
    AreVisitsNoted arrays t (walk arrays piece)
above_noted arrays t bounds bs var low high m d j k noted vars inside above piece less e =
    let found = piece_at bs var low high m vars d above k piece e in
    let small = found.1 in
    subst (λ p. AreVisitsNoted arrays t (walk arrays p)) (sym found.2)
    (noted (start_of low high m above) (start_of low high m (above + 1))
    (start_rises low high m (j + 1) above (omega arith)) (start_rises low high m (above + 1) m (omega arith)) vars inside)

-- ---- phase after phase

both_apart : (arrays : Arrays) (t u : List Touch) (a b : Steps) → AreVisitsNoted arrays t (walk arrays a) → AreVisitsNoted arrays u (walk arrays b) → AreClear arrays t u → IsSeparate arrays a b
both_apart arrays t u a b ta ub clear = (clear_apart arrays (t ∷ u ∷ []) (a ∷ b ∷ []) (ta, (ub, tt)) (λ number small. ((clear number small, tt), (tt, tt)))).0.0

-- After some phases: the stretches have all that higher members did in them, and the member's own pieces were clear.
pub record IsPassed (arrays : Arrays) (bounds : Bounds) (member passed : ℕ) (rounds : Vars → List (List Steps)) (above : List Touch) : Type 0 where
  pub noted : (vars : Vars) → AreWithin bounds vars → (high k : ℕ) (piece : Steps) → member < high → k < passed → IsPiece (rounds vars) high k piece →
      AreVisitsNoted arrays above (walk arrays piece)
  pub clear : (vars : Vars) → AreWithin bounds vars → (high early late : ℕ) (one other : Steps) → member < high → early < late → late < passed →
      IsPiece (rounds vars) member late one → IsPiece (rounds vars) high early other → IsSeparate arrays one other

pub none_passed : (arrays : Arrays) (bounds : Bounds) (member : ℕ) (rounds : Vars → List (List Steps)) (above : List Touch) → IsPassed arrays bounds member 0 rounds above
none_passed arrays bounds member rounds above = record {
  noted = λ vars inside high k piece less none at. absurd (omega arith);
  clear = λ vars inside high early late one other less before none at_one at_other. absurd (omega arith);
}

pub one_passed : (arrays : Arrays) (bounds : Bounds) (member k : ℕ) (rounds : Vars → List (List Steps)) (own before after : List Touch) →
    IsPassed arrays bounds member k rounds before → AreClear arrays own before → Widens before after →
    ((vars : Vars) → AreWithin bounds vars → (piece : Steps) → IsPiece (rounds vars) member k piece → AreVisitsNoted arrays own (walk arrays piece)) →
    ((vars : Vars) → AreWithin bounds vars → (high : ℕ) (piece : Steps) → member < high → IsPiece (rounds vars) high k piece → AreVisitsNoted arrays after (walk arrays piece)) →
    IsPassed arrays bounds member (k + 1) rounds after
one_passed arrays bounds member k rounds own before after h clear wider own_is above_is = record {
  noted = λ vars inside high i piece less small at. ⊎_elim
      (λ l. noted_wider arrays before after (walk arrays piece) wider (h.noted vars inside high i piece less l at))
      (λ l. let here : i ≡ k = omega arith in above_is vars inside high piece less (subst (λ n. IsPiece (rounds vars) high n piece) here at))
      (cases_lt i k);
  clear = λ vars inside high early late one other less order small at_one at_other. ⊎_elim
      (λ l. h.clear vars inside high early late one other less order l at_one at_other)
      (λ l. let here : late ≡ k = omega arith in
      both_apart arrays own before one other (own_is vars inside one (subst (λ n. IsPiece (rounds vars) member n one) here at_one))
      (h.noted vars inside high early other less (omega arith) at_other) clear)
      (cases_lt late k);
}

rounds_length : (bs : List Block) (var : List ℕ) (low high : ℤ) (m : ℕ) (vars : Vars) → length (rounds_in bs var low high m vars) ≡ length bs
rounds_length [] var low high m vars = refl
rounds_length (b ∷ bs) var low high m vars = ap (λ n. suc n) (rounds_length bs var low high m vars)

pub all_passed : (arrays : Arrays) (bounds : Bounds) (member n : ℕ) (bs : List Block) (var : List ℕ) (low high : ℤ) (m : ℕ) (above : List Touch) → length bs ≤ n →
    IsPassed arrays bounds member n (rounds_in bs var low high m) above → IsMemberAlwaysClear arrays bounds member (rounds_in bs var low high m)
all_passed arrays bounds member n bs var low high m above all h vars inside top early late one other less order at_one at_other =
    let small = entry_within (rounds_in bs var low high m vars) member late one at_one in
    let counted = rounds_length bs var low high m vars in
    h.clear vars inside top early late one other less order (omega (arith, small, counted, all)) at_one at_other

-- ---- member after member

-- There is no piece of a member past the last one.
few_pieces : (phases : Sequences) (var : List ℕ) (low high : ℤ) (m : ℕ) (vars : Vars) (j k : ℕ) (piece : Steps) → IsPiece (phase_rounds phases var low high m vars) j k piece → j < m
few_pieces no_more var low high m vars j k piece e = absurd (cc)
few_pieces (beside first rest) var low high m vars j zero piece e = (member_at var low high m (sequence_work first) 0 m vars j piece e).0
few_pieces (beside first rest) var low high m vars j (suc k) piece e = few_pieces rest var low high m vars j k piece e

pub never_crossing : (arrays : Arrays) (bounds : Bounds) (phases : Sequences) (var : List ℕ) (low high : ℤ) (m n : ℕ) → m ≤ n →
    ((j : ℕ) → j < n → IsMemberAlwaysClear arrays bounds j (phase_rounds phases var low high m)) → HasNeverCrossing arrays bounds (phase_rounds phases var low high m)
never_crossing arrays bounds phases var low high m n all each vars inside cell found =
    let rounds = phase_rounds phases var low high m vars in
    let small = few_pieces phases var low high m vars found.low found.late found.one found.at_one in
    let apart = each found.low (omega arith) vars inside found.high found.early found.late found.one found.other found.members found.phases found.at_one found.at_other in
    ⊎_elim (λ h. apart.left cell h.0 h.1) (λ h. apart.right cell h.0 (inl h.1)) found.touch

-- If there is no crossing, none is found.
pub nothing_found : (arrays : Arrays) (rounds : List (List Steps)) → HasNoCrossing arrays rounds → crossing arrays (cells_of arrays) rounds ≡ None
nothing_found arrays rounds clear =
    first_none (λ cell. crosses arrays cell 0 0 rounds) 0 (cells_of arrays) (λ cell small. cases cell (crosses arrays cell 0 0 rounds) refl)
  where
    cases : (cell : ℕ) (b : Bool) → crosses arrays cell 0 0 rounds ≡ b → crosses arrays cell 0 0 rounds ≡ false
    cases cell true e = absurd (clear cell ((tested arrays rounds cell).0 e))
    cases cell false e = e
