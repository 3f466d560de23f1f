-- One step that makes several entries: the step is taken apart into steps of one entry each, which no other hart sees.
use Rattle.std.proofs.Common.{◌≡◌, ℕ, ◌+◌, ◌*◌, ◌/◌, ◌%◌, ◌^◌, ◌<◌, ◌≤◌, true, false, eqb, List, [], ◌∷◌, ◌++◌, length, slice_index, sym, ap, refl, ◌∙◌, subst, arith, set-set, get_or-set_same, append_assoc, zero, suc, inr}
use mathlib.Core.Option.{some}
use lib.ListN.{get_elem?}
use Rattle.atomic_table.proofs.Lists.{set_here}
use Rattle.open_table.specs.declared.table.Size.{Size}
use Rattle.open_table.specs.declared.table.Mark.{Mark}
use Rattle.open_table.specs.declared.table.Post.{Post}
use Rattle.open_table.specs.declared.table.Post.TheVariants.{Home, Guest}
use Rattle.open_table.specs.declared.table.Act.TheVariants.{Register, Request, Close, SeeEmpty, Unregister}
use Rattle.open_table.specs.declared.table.Entry.{Entry}
use Rattle.open_table.specs.Table.{TableState, Leads, slot, homes, owner, below, is_home, top_mark, on_top}
use Rattle.open_rule.specs.declared.view.View.{View}
use Rattle.open_rule.specs.declared.view.Look.{Look}
use Rattle.open_rule.specs.Words.{index, is_closing, guests_of, parent_of}
use Rattle.open_rule.specs.Views.{entry_of, acted, registered_wishing, ended_empty}
use Rattle.open_rule.specs.Rule.{Stands, IsSeat}
use Rattle.open_rule.specs.Laws.{St, after_step, Appends, AppendsAll}
use Rattle.open_rule.specs.Steps.{MayRegisterWishing, MayClose}
use Rattle.open_rule.proofs.Words.{reports_parent}
use Rattle.open_table.proofs.Steps.{slot_within, live_slot}
use Rattle.open_rule.proofs.Moves.{sound_now, inside, small_row, hart_in}
use Rattle.open_rule.proofs.Sorts as sorts

-- One entry, then more.
then : (z : Size) (s s1 s2 : St) (k : Stands z s) (e : Entry) (es : List Entry) → (a : Appends z s k e s1) → AppendsAll z s1 a.0 es s2 → AppendsAll z s k (e ∷ es) s2
then z s s1 s2 k e es a b = (b.0, b.1 ∙ ap (λ (j : List Entry). j ++ es) a.1 ∙ append_assoc k.journal (e ∷ []) es, (a.2.0, subst (λ (t : TableState). Leads z t es b.0.table) a.2.1 b.2))

last : (z : Size) (s s1 : St) (k : Stands z s) (e : Entry) → Appends z s k e s1 → AppendsAll z s k (e ∷ []) s1
last z s s1 k e a = (a.0, a.1, (a.2.0, sym a.2.1))

-- Two steps of one seat on one word leave the word and the view of the second.
twice : (s : St) (i n m id : ℕ) (v w : View) → after_step (after_step s i n id v) i m id w ≡ after_step s i m id w
twice s i n m id v w = λ j. record { words = set-set s.words i n m j; homes = s.homes; views = set-set s.views id v w j }

-- The stack of a home after a change of its top's mark.
on_top_home : (f : Mark → Mark) (s : List Post) → is_home s ≡ true → (is_home (on_top f s) ≡ true) × (owner (on_top f s) ≡ owner s) × (top_mark (on_top f s) ≡ f (top_mark s)) × (below (on_top f s) ≡ below s)
on_top_home f [] e = absurd (cc)
on_top_home f (Home x m ∷ rest) e = (refl, refl, refl, refl)
on_top_home f (Guest x ∷ rest) e = absurd (cc)

one_home : (s : List Post) → is_home s ≡ true → homes (below s) + 1 ≡ homes s
one_home [] e = absurd (cc)
one_home (Home x m ∷ rest) e = refl
one_home (Guest x ∷ rest) e = absurd (cc)

-- The closing bit doesn't change the guests.
closed_guests : (n : ℕ) → is_closing n ≡ false → n < 2 ^ 48 → guests_of n ≡ 0 → guests_of ((n + 2) % 2 ^ 64) ≡ 0
closed_guests n opened small none =
    let b : n / 2 % 2 ≡ 0 = not_one (n / 2 % 2) opened (omega arith) in
    let m : (n + 2) % 2 ^ 64 ≡ n + 2 = omega arith in
    let q : (n + 2) / 65536 ≡ n / 65536 = omega arith in
    ap (λ (k : ℕ). k / 65536 % 256) m ∙ (ap (λ (k : ℕ). k % 256) q ∙ none)
  where
    not_one : (k : ℕ) → eqb k 1 ≡ false → k < 2 → k ≡ 0
    not_one zero e l = refl
    not_one (suc zero) e l = absurd (cc)
    not_one (suc (suc k)) e l = absurd (omega arith)

module _ (z : Size) (s : St) (k : Stands z s) (id : ℕ) (v : View) (at : get_elem? s.views id ≡ some v) (seat : IsSeat v) where
  -- The word and the seat's view after a step on a word of the board.
  now_word : (i n : ℕ) (w : View) → i < length s.words → slice_index (after_step s i n id w).words i ≡ n
  now_word i n w low = get_or-set_same s.words i n 0 low

  now_view : (i n : ℕ) (w : View) → get_elem? (after_step s i n id w).views id ≡ some w
  now_view i n w = set_here s.views id w (inside s.views id v at)

  pub registers_wishing : (x n c : ℕ) → x ≡ slot z v.hart (homes v.stack) → n ≡ 1 + c * 256 + owner v.stack * 4294967296 → MayRegisterWishing z v c
      → AppendsAll z s k (entry_of (Register x) v ∷ entry_of (Request x c) v ∷ []) (after_step s (index x) n id (registered_wishing x c v))
  registers_wishing x n c is word may =
      let w : View = acted (Register x) v in let n1 : ℕ = 1 + owner v.stack * 4294967296 in
      let s1 : St = after_step s (index x) n1 id w in
      let first = sorts.registers z s k id v at seat x n1 is refl may.0 in
      let second = sorts.requests z s1 first.0 id w (now_view (index x) n1 w) seat x c refl (refl, refl, inr (let l = may.1 in omega arith)) in
      let s2 : St = after_step s1 (index x) ((slice_index s1.words (index x) + c * 256) % 2 ^ 64) id (acted (Request x c) w) in
      let in_range = slot_within z v.hart (homes v.stack) (hart_in z s k id v at seat) may.0 in
      let here : slice_index s1.words (index x) ≡ n1 = now_word (index x) n1 w (let g = k.wide in omega arith) in
      let small : slice_index s1.words (index x) < 2 ^ 48 = sorts.small_word z s1 first.0 id w (now_view (index x) n1 w) seat x (omega arith) (omega arith) in
      let few = k.size.harts in let most = may.1 in
      let word' : (slice_index s1.words (index x) + c * 256) % 2 ^ 64 ≡ n = added (slice_index s1.words (index x)) c n1 n here small (omega arith) (omega arith) in
      subst (AppendsAll z s k (entry_of (Register x) v ∷ entry_of (Request x c) v ∷ []))
      (twice s (index x) n1 ((slice_index s1.words (index x) + c * 256) % 2 ^ 64) id w (acted (Request x c) w) ∙ ap (λ (m : ℕ). after_step s (index x) m id (registered_wishing x c v)) word')
      (then z s s1 s2 k (entry_of (Register x) v) (entry_of (Request x c) v ∷ []) first (last z s1 s2 first.0 (entry_of (Request x c) v) second))
    where
      added : (a c n1 n : ℕ) → a ≡ n1 → a < 2 ^ 48 → c ≤ 63 → n ≡ n1 + c * 256 → (a + c * 256) % 2 ^ 64 ≡ n
      added a c n1 n e l m is = let d : (a + c * 256) % 2 ^ 64 ≡ a + c * 256 = omega arith in omega arith

  pub home_sees_parent : (x : ℕ) → x ≡ owner v.stack → is_home v.stack ≡ true
      → (parent_of (slice_index s.words (index x)) ≡ owner (below v.stack)) × (parent_of (slice_index s.words (index x)) ≤ 4096)
  home_sees_parent x is home =
      let row = sorts.home_row z s k id v at seat x home is in let w = sorts.live_word z s k id v at seat x row.live in
      let shown = reports_parent (k.table.rows x) (slice_index s.words (index x)) (small_row z s k x) w.1 in
      (shown ∙ row.parent, subst (λ (q : ℕ). q ≤ 4096) (sym shown) (small_row z s k x).parent)

  pub ends : (x n : ℕ) (ls : List Look) → x ≡ owner v.stack → MayClose v → guests_of n ≡ 0 → slice_index s.words (index x) ≡ n
      → AppendsAll z s k (entry_of (Close x) v ∷ entry_of (SeeEmpty x) v ∷ entry_of (Unregister x) v ∷ [])
      (after_step s (index x) 0 id (record (ended_empty x v) { looks = ls }))
      × (owner (ended_empty x v).stack ≡ owner (below v.stack)) × (homes (ended_empty x v).stack + 1 ≡ homes v.stack)
  ends x n ls is may none found =
      let i : ℕ = index x in let a : ℕ = slice_index s.words i in
      let shut : Mark → Mark = λ m. record m { closed = true } in
      let seen : Mark → Mark = λ m. record m { empty = true } in
      let row = sorts.home_row z s k id v at seat x may.0 is in
      let low = live_slot z k.table (sound_now z s k) x row.live in
      let small : a < 2 ^ 48 = sorts.small_word z s k id v at seat x low.0 low.1 in
      let opened : is_closing a ≡ false = (sorts.home_reports z s k id v at seat x is may.0).1 ∙ may.1 in
      let n1 : ℕ = (a + 2) % 2 ^ 64 in let w1 : View = acted (Close x) v in let s1 : St = after_step s i n1 id w1 in
      let n2 : ℕ = slice_index s1.words i in let w2 : View = record (acted (SeeEmpty x) w1) { looks = ls } in let s2 : St = after_step s1 i n2 id w2 in
      let w3 : View = record (ended_empty x v) { looks = ls } in let s3 : St = after_step s2 i 0 id w3 in
      let at1 = now_view i n1 w1 in
      let here : n2 ≡ n1 = now_word i n1 w1 (let g = k.wide in let l = low.1 in omega arith) in
      let one = on_top_home shut v.stack may.0 in
      let two = on_top_home seen (on_top shut v.stack) one.0 in
      let shut_now : (top_mark w1.stack).closed ≡ true = ap (λ (m : Mark). m.closed) one.2 in
      let first = sorts.closes z s k id v at seat x is may in
      let second = sorts.sees_empty z s1 first.0 id w1 at1 seat x ls (is ∙ sym one.1) (one.0, shut_now) (ap guests_of here ∙ closed_guests a opened small (ap guests_of found ∙ none)) in
      let at2 = set_here s1.views id w2 (inside s1.views id w1 at1) in
      let third = sorts.unregisters z s2 second.0 id w2 at2 seat x (is ∙ (sym one.1 ∙ sym two.1)) (two.0, ap (λ (m : Mark). m.closed) two.2 ∙ shut_now, ap (λ (m : Mark). m.empty) two.2) in
      let rest : below (on_top seen (on_top shut v.stack)) ≡ below v.stack = two.3 ∙ one.3 in (
        subst (AppendsAll z s k (entry_of (Close x) v ∷ entry_of (SeeEmpty x) v ∷ entry_of (Unregister x) v ∷ []))
            (twice s1 i n2 0 id w2 w3 ∙ twice s i n1 0 id w1 w3)
            (then z s s1 s3 k (entry_of (Close x) v) (entry_of (SeeEmpty x) v ∷ entry_of (Unregister x) v ∷ []) first
            (then z s1 s2 s3 first.0 (entry_of (SeeEmpty x) v) (entry_of (Unregister x) v ∷ []) second
            (last z s2 s3 second.0 (entry_of (Unregister x) v) third.0))),
        ap owner rest,
        ap (λ (q : List Post). homes q + 1) rest ∙ one_home v.stack may.0,
      )
