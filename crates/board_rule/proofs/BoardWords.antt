-- The board word after a step that adds an entry.
use Rattle.std.proofs.Common.{◌≡◌, ℕ, ◌+◌, ◌-◌, ◌*◌, ◌%◌, ◌^◌, ◌≤◌, List, [], ◌∷◌, ◌++◌, length, sym, ap, ◌∙◌, arith}
use Rattle.std.proofs.Math.Nat.{add-mul}
use Rattle.transfer_table.specs.Plan.{Plan, IsPlan, parent}
use Rattle.transfer_table.specs.Table.{TableState, effect_of, owner}
use Rattle.transfer_table.specs.Journal.{Reaches}
use Rattle.transfer_table.specs.Allowed.{IsAllowed}
use Rattle.transfer_table.specs.Entry.{hart_of}
use Rattle.transfer_table.specs.declared.entry.Entry.{Entry}
use Rattle.transfer_table.specs.declared.entry.Entry.TheVariants.{Register, Request, Enter, Yield, Unregister, Skip}
use Rattle.transfer_table.proofs.Positions.{legal_position, reaches-allowed}
use Rattle.transfer_table.proofs.Effects.{owner_after}
use Rattle.hart_port.specs.Words.{owner_digits}
use Rattle.hart_port.specs.Words.{board_word}
use Rattle.board_rule.specs.Words.{length_unit}
use Rattle.board_rule.proofs.Lists.{digits-set}
use Rattle.board_rule.proofs.Fields.{digits_small}
use Rattle.board_rule.proofs.Rooms.{has_room}

-- One digit changes.
digits_after : (p : Plan) → IsPlan p → (es : List Entry) (t : TableState) (e : Entry) → Reaches p es t → IsAllowed p t e
    → owner_digits (effect_of p t e).owners + owner t (hart_of e) * 4096 ^ hart_of e ≡ owner_digits t.owners + owner_after p e * 4096 ^ hart_of e
digits_after p plan es t (Register h s) leads a = digits-set t.owners h s (let z = (legal_position p plan es t leads).owners in omega (arith, a.0))
digits_after p plan es t (Request h s k) leads a = ap (λ (o : ℕ). owner_digits t.owners + o * 4096 ^ h) a.2
digits_after p plan es t (Enter h s) leads a = digits-set t.owners h s (let z = (legal_position p plan es t leads).owners in omega (arith, a.0))
digits_after p plan es t (Yield h s) leads a = digits-set t.owners h (parent p s) (let z = (legal_position p plan es t leads).owners in omega (arith, a.0))
digits_after p plan es t (Unregister h s) leads a = digits-set t.owners h (parent p s) (let z = (legal_position p plan es t leads).owners in omega (arith, a.0))
digits_after p plan es t (Skip h s) leads a = ap (λ (o : ℕ). owner_digits t.owners + o * 4096 ^ h) a.2

-- The word after the addition.
pub board_next : (p : Plan) → IsPlan p → p.harts ≤ 4 → (es : List Entry) (t : TableState) (e : Entry) → Reaches p es t → IsAllowed p t e → (n k : ℕ) → n ≡ board_word t (length es)
    → k + owner t (hart_of e) * 4096 ^ hart_of e ≡ length_unit + owner_after p e * 4096 ^ hart_of e
    → (n + k) % 2 ^ 64 ≡ board_word (effect_of p t e) (length es + 1)
board_next p plan four es t e leads a n k is amount =
    let digit = digits_after p plan es t e leads a in
    let small = digits_small p plan four (es ++ e ∷ []) (effect_of p t e) (reaches-allowed p plan es t e leads a) in
    let short = plan.short in let less = has_room p plan es t e leads a in omega arith

-- The amount that is added if an owner rises, and if it falls.
pub rising : (x o q k : ℕ) → o ≤ x → k ≡ length_unit + (x - o) * q → k + o * q ≡ length_unit + x * q
rising x o q k le is = let a : ℕ = x - o in let b : a + o ≡ x = omega arith in let xq : x * q ≡ a * q + o * q = ap (λ (z : ℕ). z * q) (sym b) ∙ add-mul a o q in omega arith

pub falling : (x o q k : ℕ) → x ≤ o → k + (o - x) * q ≡ length_unit → k + o * q ≡ length_unit + x * q
falling x o q k le is = let a : ℕ = o - x in let b : a + x ≡ o = omega arith in let oq : o * q ≡ a * q + x * q = ap (λ (z : ℕ). z * q) (sym b) ∙ add-mul a x q in omega arith
