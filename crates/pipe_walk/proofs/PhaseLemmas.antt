-- The table's marks of a cell, phase by phase, and when the crossing test passes.
use Rattle.std.proofs.Common.{◌≡◌, ℕ, zero, suc, ◌+◌, ◌-◌, ◌<◌, ◌≤◌, Bool, true, false, List, [], ◌∷◌, take, length, replicate, Some, None, ℤ, refl, sym, ap, ◌∙◌, arith}
use Rattle.std.specs.Prelude.{◌||◌, max, slice_index_or, map, drop, get_or, if◌then◌else◌}
use Rattle.std.proofs.lemmas.List.{length-replicate}
use Rattle.std.proofs.Common.{drop-cons, add-one}
use Rattle.array_tree.specs.declared.tree.Block.{Block}
use Rattle.array_tree.specs.Trees.{Sequences, no_more, beside, sequence_of, sequences}
use Rattle.array_meaning.specs.Stores.{Arrays, Vars, cells_of}
use Rattle.array_meaning.specs.Steps.{Steps}
use Rattle.array_meaning.specs.Work.{Work, sequence_work}
use Rattle.array_meaning.specs.Members.{member_work, member_works, team_works}
use Rattle.array_meaning.specs.Overlap.{first_from}
use Rattle.array_meaning.specs.Sites.{phase_rounds}
use Rattle.site_walk.proofs.PieceLemmas.{first_none}
use Rattle.phase_order.specs.Tests.{is_changed, is_read, is_touched, some_of, highest, crosses, crossing}
use Rattle.pipe_walk.specs.declared.members.Members.TheVariants.{NoMember}
use Rattle.pipe_walk.specs.declared.touch.Touch.{Touch}
use Rattle.pipe_walk.specs.declared.past.Past.{Past}
use Rattle.pipe_walk.specs.Inside.Members.{joined, untouched, touch_in, starts_below, last_of}
use Rattle.pipe_walk.specs.Inside.Tables.{TableParts, no_past, passed, past_in, touch_at, cleared, IsFor, IsSettled}
use Rattle.pipe_walk.specs.Inside.Marks.{with_pieces}
use Rattle.pipe_walk.proofs.MemberLemmas.{members_in, members_below, members_last, none_highest, either_highest}
use Rattle.pipe_walk.proofs.PieceLemmas.{noted, touch_with_pieces, pieces_stay_for, pieces_keep_past}
use Rattle.pipe_walk.proofs.CellLemmas.{anywhere}

-- ---- one phase

-- The marks of a cell by the pieces of a phase.
abbrev pub touch_of : Arrays → ℕ → List Steps → Touch
touch_of arrays cell round = noted (members_in (is_read arrays cell) 0 round NoMember) (members_in (is_changed arrays cell) 0 round NoMember)

abbrev made : ℕ → ℕ → Bool → Past
made toucher changer crossed = record { toucher = toucher; changer = changer; crossed = crossed }

last_is : (test : Steps → Bool) (round : List Steps) → last_of (members_in test 0 round NoMember) ≡ highest test round
last_is test round =
    members_last test 0 round NoMember ∙ ap (max 0) (none_highest test round) ∙ (let e : max 0 (highest test round) ≡ highest test round = omega arith in e)

below_is : (test : Steps → Bool) (n : ℕ) (round : List Steps) → starts_below n (members_in test 0 round NoMember) ≡ some_of test (take n round)
below_is test n round = members_below test n 0 n round NoMember (omega arith)

passed_is : (arrays : Arrays) (cell : ℕ) (past : Past) (round : List Steps) →
    passed past (touch_of arrays cell round)
    ≡ made (max past.toucher (highest (is_touched arrays cell) round)) (max past.changer (highest (is_changed arrays cell) round))
    (past.crossed || (some_of (is_changed arrays cell) (take past.toucher round) || some_of (is_read arrays cell) (take past.changer round)))
passed_is arrays cell past round =
    let read = is_read arrays cell in
    let changed = is_changed arrays cell in
    let touch = touch_of arrays cell round in
    let crossed = past.crossed || (starts_below past.toucher touch.changed || starts_below past.changer touch.read) in
    ap (λ n. made (max past.toucher n) (max past.changer (last_of touch.changed)) crossed)
    (ap (λ n. max n (last_of touch.changed)) (last_is read round) ∙ ap (max (highest read round)) (last_is changed round) ∙ sym (either_highest read changed round))
    ∙ ap (λ n. made (max past.toucher (highest (is_touched arrays cell) round)) (max past.changer n) crossed) (last_is changed round)
    ∙ ap (λ b. made (max past.toucher (highest (is_touched arrays cell) round)) (max past.changer (highest changed round)) (past.crossed || b))
    (ap (λ b. b || starts_below past.changer touch.read) (below_is changed past.toucher round)
    ∙ ap (λ b. some_of changed (take past.toucher round) || b) (below_is read past.changer round))

-- Whether pieces of the earlier phases crossed, or one of these phases crosses an earlier one.
abbrev pub crossed_left : Arrays → ℕ → Past → List (List Steps) → Bool
crossed_left arrays cell past rounds = past.crossed || crosses arrays cell past.toucher past.changer rounds

or_assoc : (a b c : Bool) → ((a || b) || c) ≡ (a || (b || c))
or_assoc true b c = refl
or_assoc false b c = refl

pub phase_left : (arrays : Arrays) (cell : ℕ) (past : Past) (round : List Steps) (more : List (List Steps)) →
    crossed_left arrays cell (passed past (touch_of arrays cell round)) more ≡ crossed_left arrays cell past (round ∷ more)
phase_left arrays cell past round more =
    ap (λ (p : Past). crossed_left arrays cell p more) (passed_is arrays cell past round)
    ∙ or_assoc past.crossed (some_of (is_changed arrays cell) (take past.toucher round) || some_of (is_read arrays cell) (take past.changer round))
    (crosses arrays cell (max past.toucher (highest (is_touched arrays cell) round)) (max past.changer (highest (is_changed arrays cell) round)) more)

-- ---- the table

-- The table between two phases has each cell's marks of the earlier phases: the remaining phases cross iff all do.
pub record IsThrough (arrays : Arrays) (all left : List (List Steps)) (table : TableParts) : Type 0 where
  pub for_them : IsFor arrays table
  pub blank : (c : ℕ) → touch_at table c ≡ untouched
  pub notes : (c : ℕ) → c < cells_of arrays → crossed_left arrays c (past_in table.past c) left ≡ crosses arrays c 0 0 all

pub cleared_for : (arrays : Arrays) (t : TableParts) → IsFor arrays t → IsFor arrays (cleared t)
cleared_for arrays t for_them = record {
  cells = length-replicate (length t.cells) untouched ∙ for_them.cells;
  everywhere = length-replicate (length t.everywhere) untouched ∙ for_them.everywhere;
  past = length-replicate (length t.past) no_past ∙ for_them.past;
  owners = for_them.owners;
}

blank_at : (t : TableParts) (n m c : ℕ) → t.cells ≡ replicate n untouched → t.everywhere ≡ replicate m untouched → touch_at t c ≡ untouched
blank_at t n m c e f =
    ap (λ cells. joined (touch_in cells c) (touch_in t.everywhere (slice_index_or t.owners c 0))) e
    ∙ ap (λ every. joined (touch_in (replicate n untouched) c) (touch_in every (slice_index_or t.owners c 0))) f
    ∙ ap (λ x. joined x (touch_in (replicate m untouched) (slice_index_or t.owners c 0))) (anywhere n untouched c)
    ∙ ap (joined untouched) (anywhere m untouched (slice_index_or t.owners c 0))

pub none_through : (arrays : Arrays) (all : List (List Steps)) (t : TableParts) → IsFor arrays t → IsThrough arrays all all (cleared t)
none_through arrays all t for_them = record {
  for_them = cleared_for arrays t for_them;
  blank = λ c. blank_at (cleared t) (length t.cells) (length t.everywhere) c refl refl;
  notes = λ c small. ap (λ (p : Past). crossed_left arrays c p all) (anywhere (length t.past) no_past c);
}

pub one_through : (arrays : Arrays) (all : List (List Steps)) (round : List Steps) (more : List (List Steps)) (t after : TableParts) →
    IsThrough arrays all (round ∷ more) t → IsSettled (with_pieces arrays 0 round t) after → IsThrough arrays all more after
one_through arrays all round more t after through settled =
    let marked = with_pieces arrays 0 round t in
    let for_marked = pieces_stay_for arrays 0 round t through.for_them in
    record {
      for_them = record {
        cells = ap length settled.cells ∙ length-replicate (length marked.cells) untouched ∙ for_marked.cells;
        everywhere = ap length settled.everywhere ∙ length-replicate (length marked.everywhere) untouched ∙ for_marked.everywhere;
        past = settled.places ∙ for_marked.past;
        owners = settled.owners ∙ for_marked.owners;
      };
      blank = λ c. blank_at after (length marked.cells) (length marked.everywhere) c settled.cells settled.everywhere;
      notes = λ c small.
          let there : c < length marked.past = (let e = for_marked.past in omega arith) in
          ap (λ (p : Past). crossed_left arrays c p more)
          (settled.past c there
          ∙ ap (λ past. passed (past_in past c) (touch_at marked c)) (pieces_keep_past arrays 0 round t)
          ∙ ap (passed (past_in t.past c)) (touch_with_pieces arrays 0 round t c through.for_them small
          ∙ ap (λ (s : Touch). noted (members_in (is_read arrays c) 0 round s.read) (members_in (is_changed arrays c) 0 round s.changed)) (through.blank c)))
          ∙ phase_left arrays c (past_in t.past c) round more
          ∙ through.notes c small;
    }

pub all_through : (arrays : Arrays) (all : List (List Steps)) (t : TableParts) (c : ℕ) → IsThrough arrays all [] t → c < cells_of arrays →
    (past_in t.past c).crossed ≡ crosses arrays c 0 0 all
all_through arrays all t c through small = none_more (past_in t.past c).crossed ∙ through.notes c small
  where
    none_more : (b : Bool) → b ≡ (b || false)
    none_more true = refl
    none_more false = refl

-- ---- constructs without a walk

-- One phase.
pub few_phases : (arrays : Arrays) (phases : List Block) (var : List ℕ) (low high : ℤ) (members : ℕ) (vars : Vars) → length phases < 2 →
    crossing arrays (cells_of arrays) (phase_rounds (sequences (map sequence_of phases)) var low high members vars) ≡ None
few_phases arrays [] var low high members vars few = first_none (λ cell. crosses arrays cell 0 0 []) 0 (cells_of arrays) (λ c small. refl)
few_phases arrays (p ∷ []) var low high members vars few =
    let round = team_works var low high members (sequence_work (sequence_of p)) vars in
    first_none (λ cell. crosses arrays cell 0 0 (round ∷ [])) 0 (cells_of arrays) (λ c small. refl)
few_phases arrays (p ∷ q ∷ more) var low high members vars few = absurd (omega arith)

-- One member.
lone : (arrays : Arrays) (cell : ℕ) (phases : Sequences) (var : List ℕ) (low high : ℤ) (members : ℕ) (vars : Vars) → members < 2 →
    crosses arrays cell 0 0 (phase_rounds phases var low high members vars) ≡ false
lone arrays cell no_more var low high members vars few = refl
lone arrays cell (beside first rest) var low high zero vars few = lone arrays cell rest var low high zero vars few
lone arrays cell (beside first rest) var low high (suc zero) vars few = lone arrays cell rest var low high 1 vars few
lone arrays cell (beside first rest) var low high (suc (suc more)) vars few = absurd (omega arith)

pub few_members : (arrays : Arrays) (phases : Sequences) (var : List ℕ) (low high : ℤ) (members : ℕ) (vars : Vars) → members < 2 →
    crossing arrays (cells_of arrays) (phase_rounds phases var low high members vars) ≡ None
few_members arrays phases var low high members vars few =
    first_none (λ cell. crosses arrays cell 0 0 (phase_rounds phases var low high members vars)) 0 (cells_of arrays)
    (λ c small. lone arrays c phases var low high members vars few)

-- ---- the least cell

pub same_cells : (f g : ℕ → Bool) (i k : ℕ) → ((c : ℕ) → c < i + k → f c ≡ g c) → first_from f i k ≡ first_from g i k
same_cells f g i zero h = refl
same_cells f g i (suc k) h =
    ap (λ b. if b then Some i else first_from f (i + 1) k) (h i (omega arith))
    ∙ ap (λ rest. if g i then Some i else rest) (same_cells f g (i + 1) k (λ c small. h c (omega arith)))

-- ---- one more phase or member

-- The next of the remaining phases.
pub phase_next : (phases : List Block) (i : ℕ) (d : Block) (var : List ℕ) (low high : ℤ) (members : ℕ) (vars : Vars) → i < length phases →
    phase_rounds (sequences (map sequence_of (drop i phases))) var low high members vars
    ≡ team_works var low high members (sequence_work (sequence_of (get_or phases i d))) vars
    ∷ phase_rounds (sequences (map sequence_of (drop (i + 1) phases))) var low high members vars
phase_next phases i d var low high members vars h =
    ap (λ rest. phase_rounds (sequences (map sequence_of rest)) var low high members vars) (drop-cons phases i d h) ∙ rw add-one refl

-- No phase is left.
pub phases_end : (phases : List Block) (i : ℕ) (var : List ℕ) (low high : ℤ) (members : ℕ) (vars : Vars) → length phases ≤ i →
    phase_rounds (sequences (map sequence_of (drop i phases))) var low high members vars ≡ []
phases_end [] zero var low high members vars h = refl
phases_end [] (suc i) var low high members vars h = refl
phases_end (p ∷ ps) zero var low high members vars h = absurd (omega arith)
phases_end (p ∷ ps) (suc i) var low high members vars h = phases_end ps i var low high members vars (omega arith)

-- The next of the remaining members.
pub member_next : (arrays : Arrays) (var : List ℕ) (low high : ℤ) (m : ℕ) (body : Work) (j : ℕ) (vars : Vars) (t : TableParts) → j < m →
    with_pieces arrays j (member_works var low high m body j (m - j) vars) t
    ≡ with_pieces arrays (j + 1) (member_works var low high m body (j + 1) (m - (j + 1)) vars)
    (with_pieces arrays j (member_work var low high m body j vars ∷ []) t)
member_next arrays var low high m body j vars t h =
    ap (λ k. with_pieces arrays j (member_works var low high m body j k vars) t) (let e : m - j ≡ suc (m - (j + 1)) = omega arith in e)
