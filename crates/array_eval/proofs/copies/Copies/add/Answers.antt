use Rattle.std.proofs.Common.{◌≡◌, ◌+◌, ◌<◌, ◌++◌, ◌∷◌, [], suc, length, map, set, get_or, Some, None, sym, ap, ◌∙◌, subst, arith}
use Rattle.std.proofs.lemmas.List.{length-append, length-map, length-set}
use Rattle.array_eval.specs.Copies.{copy_at, AreSlots}
use Rattle.array_eval.specs.Traces.{fresh}
use Rattle.array_eval.proofs.CopyLemmas.{slots_add, copies_add, room_left, free_slot}
use Rattle.array_eval.proofs.copies.Copies.add.Goals as goal

pub push_page-requires : goal.push_page-requires
push_page-requires c =
    let slots = c.self.inside.slots.items in
    let pages = c.self.inside.pages.items in
    let number = c.args.number in
    let right = c.self.invariant.0 in
    let long : length slots ≡ length c.args.self.now = sym (length-map slots (copy_at pages)) ∙ ap length c.self.view_is in
    let inside : number < length slots = omega (arith, long, c.requires.inside) in
    let free : get_or slots number 0 ≡ 0 = free_slot pages slots number right (ap (λ copies. get_or copies number None) c.self.view_is ∙ c.requires.none) in
    let few = room_left slots (length pages) number right inside free in
    let room = c.self.invariant.1 in
    omega (arith, few, room)

pub invariant_of-self : goal.invariant_of-self
invariant_of-self c =
    let slots = c.self.inside.slots.items in
    let pages = c.self.inside.pages.items in
    let number = c.args.number in
    let right = c.self.invariant.0 in
    let long : length slots ≡ length c.args.self.now = sym (length-map slots (copy_at pages)) ∙ ap length c.self.view_is in
    let inside : number < length slots = omega (arith, long, c.requires.inside) in
    let free : get_or slots number 0 ≡ 0 = free_slot pages slots number right (ap (λ copies. get_or copies number None) c.self.view_is ∙ c.requires.none) in
    let place = c.len-place.ensures in
    let more : c.len-place.result + 1 ≡ suc (length pages) = omega (arith, place) in
    let both = ap length c.push_page.ensures.pages ∙ length-append pages (c.new.result ∷ []) in
    let pushed : length c.push_page.new.pages.items ≡ c.len-place.result + 1 = omega (arith, both, place) in
    let room = c.self.invariant.1 in
    let same = c.push_page.ensures.room in
    let as_many = length-set slots number (c.len-place.result + 1) in (
      subst (λ n. AreSlots (set slots number (c.len-place.result + 1)) n) (sym pushed) (slots_add slots (length pages) (c.len-place.result + 1) number right inside free more),
      omega (arith, room, same, as_many),
    )

pub returns : goal.returns
returns c =
    let slots = c.self.inside.slots.items in
    let pages = c.self.inside.pages.items in
    let number = c.args.number in
    let right = c.self.invariant.0 in
    let long : length slots ≡ length c.args.self.now = sym (length-map slots (copy_at pages)) ∙ ap length c.self.view_is in
    let inside : number < length slots = omega (arith, long, c.requires.inside) in
    let place = c.len-place.ensures in
    let more : c.len-place.result + 1 ≡ suc (length pages) = omega (arith, place) in
    ap (λ ps. map (copy_at ps) (set slots number (c.len-place.result + 1))) (c.push_page.ensures.pages ∙ ap (λ page. pages ++ page ∷ []) c.new.ensures)
    ∙ copies_add pages (fresh c.args.cells.now) slots number (c.len-place.result + 1) right inside more
    ∙ ap (λ copies. set copies number (Some (fresh c.args.cells.now))) c.self.view_is
