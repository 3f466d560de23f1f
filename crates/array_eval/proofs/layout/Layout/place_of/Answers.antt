use Rattle.std.proofs.Common.{◌+◌, ◌≤◌, List, length, map, drop, sym, ap, subst, ◌∙◌, arith}
use Rattle.array_tree.specs.Trees.{declaration_of}
use Rattle.array_tree.specs.declared.tree.ArrayDecl.{ArrayDecl}
use Rattle.array_meaning.specs.Stores.{arrays_of, HaveCells, cells_of, base_of, length_of}
use Rattle.array_eval.specs.Layouts.{number_of, BeginsAt}
use Rattle.array_eval.proofs.LayoutLemmas.{start_of}
use Rattle.array_eval.proofs.layout.Layout.place_of.Goals as goal

pub declared_from-declarations-requires : goal.declared_from-declarations-requires
declared_from-declarations-requires c =
    let ds = c.self.inside.arrays.now.declarations.items in
    let start = start_of ds c.args.name.now c.first_of-first.result (subst (λ arrays. BeginsAt arrays c.args.name.now c.first_of-first.result) (sym c.self.view_is) c.first_of-first.ensures) in
    let within = start.within in
    let same = ap length c.deref.ensures.value in
    let from = c.from.ensures in
    omega arith

pub place_among-requires-clause-each : goal.place_among-requires-clause-each
place_among-requires-clause-each c =
    let ds = c.self.inside.arrays.now.declarations.items in
    let first = c.first_of-first.result in
    let start = start_of ds c.args.name.now first (subst (λ arrays. BeginsAt arrays c.args.name.now first) (sym c.self.view_is) c.first_of-first.ensures) in
    let have : List ArrayDecl → Type 0 = λ xs. HaveCells (arrays_of (map declaration_of xs)) in
    subst have (sym (c.declared_from-declarations.ensures ∙ ap (λ k. drop k c.deref.result.now) c.from.ensures ∙ ap (drop first.number) c.deref.ensures.value)) start.each

pub place_among-requires-clause-whole : goal.place_among-requires-clause-whole
place_among-requires-clause-whole c =
    let ds = c.self.inside.arrays.now.declarations.items in
    let first = c.first_of-first.result in
    let start = start_of ds c.args.name.now first (subst (λ arrays. BeginsAt arrays c.args.name.now first) (sym c.self.view_is) c.first_of-first.ensures) in
    let small : List ArrayDecl → Type 0 = λ xs. first.base + cells_of (arrays_of (map declaration_of xs)) ≤ 4096 in
    subst small (sym (c.declared_from-declarations.ensures ∙ ap (λ k. drop k c.deref.result.now) c.from.ensures ∙ ap (drop first.number) c.deref.ensures.value)) start.whole

pub returns-clause-number : goal.returns-clause-number
returns-clause-number c =
    let ds = c.self.inside.arrays.now.declarations.items in
    let name = c.args.name.now in
    let first = c.first_of-first.result in
    let start = start_of ds name first (subst (λ arrays. BeginsAt arrays name first) (sym c.self.view_is) c.first_of-first.ensures) in
    c.place_among.ensures.number
    ∙ ap (λ xs. first.number + number_of (arrays_of (map declaration_of xs)) name) (c.declared_from-declarations.ensures ∙ ap (λ k. drop k c.deref.result.now) c.from.ensures ∙ ap (drop first.number) c.deref.ensures.value)
    ∙ start.found.number ∙ ap (λ arrays. number_of arrays name) c.self.view_is

pub returns-clause-base : goal.returns-clause-base
returns-clause-base c =
    let ds = c.self.inside.arrays.now.declarations.items in
    let name = c.args.name.now in
    let first = c.first_of-first.result in
    let start = start_of ds name first (subst (λ arrays. BeginsAt arrays name first) (sym c.self.view_is) c.first_of-first.ensures) in
    c.place_among.ensures.base
    ∙ ap (λ xs. first.base + base_of (arrays_of (map declaration_of xs)) name) (c.declared_from-declarations.ensures ∙ ap (λ k. drop k c.deref.result.now) c.from.ensures ∙ ap (drop first.number) c.deref.ensures.value)
    ∙ start.found.base ∙ ap (λ arrays. base_of arrays name) c.self.view_is

pub returns-clause-length : goal.returns-clause-length
returns-clause-length c =
    let ds = c.self.inside.arrays.now.declarations.items in
    let name = c.args.name.now in
    let first = c.first_of-first.result in
    let start = start_of ds name first (subst (λ arrays. BeginsAt arrays name first) (sym c.self.view_is) c.first_of-first.ensures) in
    c.place_among.ensures.length
    ∙ ap (λ xs. length_of (arrays_of (map declaration_of xs)) name) (c.declared_from-declarations.ensures ∙ ap (λ k. drop k c.deref.result.now) c.from.ensures ∙ ap (drop first.number) c.deref.ensures.value)
    ∙ start.found.length ∙ ap (λ arrays. length_of arrays name) c.self.view_is
