use Rattle.std.proofs.Common.{◌≡◌, ◌∷◌, [], map, ◌+◌, ap, sym, ◌∙◌, reverse, take, drop, get_or, not, false, true}
use Rattle.array_tree.specs.Trees.{declaration_of}
use Rattle.array_meaning.specs.Names.{names_of, is_among}
use Rattle.disjoint_check.specs.Faults.{unless, first_fault}
use Rattle.disjoint_check.specs.FirstNames.{duplicate_declaration}
use Rattle.disjoint_check.proofs.Among.{duplicates_next}
use Rattle.disjoint_check.proofs.Firsts.{only_fault}
use Rattle.disjoint_check.proofs.names.duplicate_declaration.Goals as goal

pub returns-then-is_declared : goal.returns-then-is_declared
returns-then-is_declared c =
    let ds = c.args.declarations.now in
    let i = c.loop-i.i in
    let d = c.index-declarations-i.result in
    let a = get_or ds i d in
    let rest = duplicate_declaration (map declaration_of (drop (i + 1) ds)) (reverse (names_of (map declaration_of (take (i + 1) ds)))) in
    let among : is_among d.name (names_of (map declaration_of (take i ds))) ≡ true = sym c.is_declared.ensures ∙ c.if-is_declared.true in
    ap (λ b. first_fault (unless (not b) d.line ∷ rest ∷ [])) (sym among)
    ∙ ap (λ e. first_fault (unless (not (is_among e.name (names_of (map declaration_of (take i ds))))) e.line ∷ rest ∷ [])) c.index-declarations-i.is
    ∙ sym (duplicates_next ds i d c.loop-i-test.true)
    ∙ c.loop-i.invariant

pub loop-i-preserved : goal.loop-i-preserved
loop-i-preserved c =
    let ds = c.args.declarations.now in
    let i = c.loop-i.i in
    let d = c.index-declarations-i.result in
    let rest = duplicate_declaration (map declaration_of (drop (i + 1) ds)) (reverse (names_of (map declaration_of (take (i + 1) ds)))) in
    let among : is_among d.name (names_of (map declaration_of (take i ds))) ≡ false = sym c.is_declared.ensures ∙ c.if-is_declared.false in
    sym (only_fault rest)
    ∙ ap (λ b. first_fault (unless (not b) d.line ∷ rest ∷ [])) (sym among)
    ∙ ap (λ e. first_fault (unless (not (is_among e.name (names_of (map declaration_of (take i ds))))) e.line ∷ rest ∷ [])) c.index-declarations-i.is
    ∙ sym (duplicates_next ds i d c.loop-i-test.true)
    ∙ c.loop-i.invariant
