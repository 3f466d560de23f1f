-- No text spells two programs.
use Rattle.std.proofs.Common.{◌≡◌, ℕ, List, sym, ◌∙◌, subst}
use Rattle.array_tree.specs.Trees.{ProgramTree}
use Rattle.array_lang.specs.Grammar.{SpellsProgram}
use Rattle.array_lang.specs.Spelled.{Spells}
use Rattle.array_lang.proofs.Complete.{one_program}

pub one_text : (text : List ℕ) (p q : ProgramTree) → Spells text p → Spells text q → p ≡ q
one_text text p q a b =
    let e : b.tokens ≡ a.tokens = let h = sym b.cut ∙ a.cut in cc in
    one_program a.tree (subst (λ ts. SpellsProgram ts q) e b.tree)
