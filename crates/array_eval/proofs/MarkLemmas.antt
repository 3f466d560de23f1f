-- Cells that are marked, page by page.
use Rattle.std.proofs.Common.{inl, inr, ◌≡◌, ℕ, zero, suc, ◌+◌, ◌<◌, ◌≤◌, Bool, true, false, cond, List, length, drop, get_or, ℤ, pos, sym, ap, subst, ◌∙◌, arith}
use Rattle.std.specs.Prelude.{All}
use Rattle.std.proofs.lemmas.List.{drop_all}
use Rattle.std.proofs.lemmas.Bool.{cases_lt}
use Rattle.array_meaning.specs.Stores.{Write}
use Rattle.array_meaning.specs.Pieces.{lay, lays}
use Rattle.array_eval.specs.Overlays.{Laid}
use Rattle.array_eval.specs.Traces.{marked_from, marks_in, IsLaidTo}
use Rattle.array_eval.proofs.TraceLemmas.{marked_next, marked_end, marks_next, length_lay}
use Rattle.array_eval.proofs.OverlayLemmas.{below_next, below_laid}

-- ---- unmarked cells are passed over

pass_cell : (cells : List ℤ) (marks : List Bool) (cell : ℕ) (o : Laid) → length cells ≡ length marks → get_or marks cell false ≡ false →
    IsLaidTo cells marks cell o → IsLaidTo cells marks (cell + 1) o
pass_cell cells marks cell o same unmarked laid = elim (cases_lt cell (length cells)) [
  | inl inside ↦
      (let within : cell < length marks = omega (arith, inside, same) in
      let one : lays (marked_from cell (drop cell cells) (drop cell marks)) o.pairs ≡ lays (marked_from (cell + 1) (drop (cell + 1) cells) (drop (cell + 1) marks)) o.pairs
      = marked_next cell cells marks (pos 0) false o.pairs inside same
      ∙ ap (λ b. lays (marked_from (cell + 1) (drop (cell + 1) cells) (drop (cell + 1) marks)) (cond b (lay cell (get_or cells cell (pos 0)) o.pairs) o.pairs)) unmarked in
      let count : marks_in (drop cell marks) ≡ 0 + marks_in (drop (cell + 1) marks)
      = marks_next cell marks false within ∙ ap (λ b. cond b 1 0 + marks_in (drop (cell + 1) marks)) unmarked in
      let room = laid.room in
      record {
        all = sym one ∙ laid.all;
        room = omega (arith, count, room);
        before = below_next cell o.pairs laid.before;
      })
  | inr outside ↦
      (let behind : length cells ≤ cell + 1 = omega (arith, outside) in
      let none : marks_in (drop (cell + 1) marks) ≡ 0 = ap marks_in (drop_all (cell + 1) marks (omega (arith, outside, same))) in
      let room = laid.room in
      record {
        all = marked_end (cell + 1) cells marks o.pairs behind ∙ sym (marked_end cell cells marks o.pairs outside) ∙ laid.all;
        room = omega (arith, none, room);
        before = below_next cell o.pairs laid.before;
      })
]

pub pass_cells : (count : ℕ) (cells : List ℤ) (marks : List Bool) (cell : ℕ) (o : Laid) → length cells ≡ length marks →
    ((k : ℕ) → k < count → get_or marks (cell + k) false ≡ false) → IsLaidTo cells marks cell o → IsLaidTo cells marks (cell + count) o
pass_cells zero cells marks cell o same unmarked laid =
    let end : cell ≡ cell + 0 = omega arith in
    subst (λ n. IsLaidTo cells marks n o) end laid
pass_cells (suc count) cells marks cell o same unmarked laid =
    let end : cell + count + 1 ≡ cell + suc count = omega arith in
    subst (λ n. IsLaidTo cells marks n o) end
    (pass_cell cells marks (cell + count) o same (unmarked count (omega arith))
    (pass_cells count cells marks cell o same (λ k h. unmarked k (omega (arith, h))) laid))

-- A marked cell is laid.
pub lay_cell : (cells : List ℤ) (marks : List Bool) (cell : ℕ) (o new : Laid) → length cells ≡ length marks → cell < length cells → get_or marks cell false ≡ true →
    new.pairs ≡ lay cell (get_or cells cell (pos 0)) o.pairs → new.room ≡ o.room → IsLaidTo cells marks cell o → IsLaidTo cells marks (cell + 1) new
lay_cell cells marks cell o new same inside marked pairs room laid =
    let within : cell < length marks = omega (arith, inside, same) in
    let value = get_or cells cell (pos 0) in
    let left : List Write = marked_from (cell + 1) (drop (cell + 1) cells) (drop (cell + 1) marks) in
    let one : lays (marked_from cell (drop cell cells) (drop cell marks)) o.pairs ≡ lays left (lay cell value o.pairs)
    = marked_next cell cells marks (pos 0) false o.pairs inside same ∙ ap (λ b. lays left (cond b (lay cell value o.pairs) o.pairs)) marked in
    let count : marks_in (drop cell marks) ≡ 1 + marks_in (drop (cell + 1) marks)
    = marks_next cell marks false within ∙ ap (λ b. cond b 1 0 + marks_in (drop (cell + 1) marks)) marked in
    let more = length_lay cell value o.pairs in
    let long : length new.pairs ≡ length (lay cell value o.pairs) = ap length pairs in
    let all = laid.room in
    let P : List Write → Type 0 = λ ws. All (λ w. w.0 < cell + 1) ws in
    record {
      all = ap (lays left) pairs ∙ sym one ∙ laid.all;
      room = omega (arith, count, more, long, room, all);
      before = subst P (sym pairs) (below_laid cell value o.pairs laid.before);
    }

-- An unmarked cell isn't laid.
pub leave_cell : (cells : List ℤ) (marks : List Bool) (cell : ℕ) (o new : Laid) → length cells ≡ length marks → get_or marks cell false ≡ false →
    new ≡ o → IsLaidTo cells marks cell o → IsLaidTo cells marks (cell + 1) new
leave_cell cells marks cell o new same unmarked is laid =
    subst (λ x. IsLaidTo cells marks (cell + 1) x) (sym is) (pass_cell cells marks cell o same unmarked laid)

-- ---- how many are marked

-- The marks of a cell and of all cells after it.
pub count_next : (marks : List Bool) (i : ℕ) → i < length marks → get_or marks i false ≡ true → marks_in (drop i marks) ≡ 1 + marks_in (drop (i + 1) marks)
count_next marks i inside here = marks_next i marks false inside ∙ ap (λ b. cond b 1 0 + marks_in (drop (i + 1) marks)) here
