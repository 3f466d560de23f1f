-- Texts that are written in sequence.
use Rattle.std.proofs.Common.{◌≡◌, ℕ, List, ◌++◌, Result, OnOk, ap, subst, ◌∙◌, append_assoc}
use Rattle.std.specs.Prelude.{codes}
use Rattle.std.proofs.lemmas.Result.{on_ok_weaker}
use Rattle.array_print.specs.declared.printer.Printer.{Printer}
use Rattle.array_print.specs.Printers.{Adds}

-- The same text, written in another way.
pub same_text : {o q : Printer} {a b : List ℕ} → a ≡ b → Adds o a q → Adds o b q
same_text {o} {q} e h = subst (λ t. Adds o t q) e h

-- Two texts added in sequence are one text added.
pub then_adds : {o p q : Printer} {a b : List ℕ} → Adds o a p → Adds p b q → Adds o (a ++ b) q
then_adds {o} {p} {q} {a} {b} h k = record {
  text = k.text ∙ ap (λ x. x ++ b) h.text ∙ append_assoc o.text.items a b;
  margin = k.margin ∙ h.margin;
}

-- The second text may depend on the margin, which the first text leaves unchanged.
pub then_inside : {o p q : Printer} {a : List ℕ} (text : List ℕ → List ℕ) → Adds o a p → Adds p (text p.margin.items) q → Adds o (a ++ text o.margin.items) q
then_inside {o} {p} {q} {a} text h k = then_adds h (subst (λ m. Adds p (text m) q) h.margin k)

pub on_then : {T E : Type 0} (r : Result T E) (q : Printer) (b : List ℕ) {o p : Printer} {a : List ℕ} → Adds o a p → OnOk r (Adds p b q) → OnOk r (Adds o (a ++ b) q)
on_then r q b {o = o} {p = p} {a = a} h k = on_ok_weaker r (then_adds {o = o} {p = p} {q = q} {a = a} {b = b} h) k

pub on_inside : {T E : Type 0} (r : Result T E) (q : Printer) (text : List ℕ → List ℕ) {o p : Printer} {a : List ℕ} → Adds o a p → OnOk r (Adds p (text p.margin.items) q) → OnOk r (Adds o (a ++ text o.margin.items) q)
on_inside r q text {o = o} {p = p} {a = a} h k = on_ok_weaker r (then_inside {o = o} {p = p} {q = q} {a = a} text h) k

-- The end of a line.
pub on_line : {T E : Type 0} (r : Result T E) (q : Printer) {o p : Printer} {a b : List ℕ} → Adds o a p → b ≡ codes "\n" → OnOk r (Adds p b q) → OnOk r (Adds o (a ++ codes "\n") q)
on_line r q {p = p} h e k = on_then r q (codes "\n") h (subst (λ t. OnOk r (Adds p t q)) e k)
