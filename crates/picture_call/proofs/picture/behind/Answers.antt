use Rattle.std.proofs.Common.{◌≡◌, ◌∙◌, ◌+◌, ◌<◌, ℕ, suc, ◌∷◌, length, drop, refl, sym, ap, subst, arith, length-drop, rules}
use Rattle.journal_text.specs.Reading.{lines_of}
use Rattle.picture_call.proofs.Reading.{behind_none, drop_next, lines_some}
use Rattle.picture_call.proofs.picture.behind.Goals as goal

pub loop-i-init : goal.loop-i-init
loop-i-init c = record { same = refl; more = lines_some c.args.text.now; short = omega arith }

pub loop-i-preserved : goal.loop-i-preserved
loop-i-preserved c =
    let lines = lines_of c.args.text.now in
    let i = c.loop-i._i in
    let left = lines_of c.in-Some.after.now in
    let here : drop i lines ≡ c.in-Some.field-0-0.now ∷ left = sym c.loop-i.invariant.same ∙ c.in-Some.ensures.0 in
    let next : drop (suc i) lines ≡ left = drop_next i lines left c.in-Some.field-0-0.now here in
    let some : 0 < length left = lines_some c.in-Some.after.now in
    let place : suc i ≡ i + 1 = omega arith in
    record {
      same = sym (subst (λ (k : ℕ). drop k lines ≡ left) place next);
      more = omega (arith, length-drop (suc i) lines, ap length next, some);
      short = omega (arith, c.in-Some.ensures.1, c.loop-i.invariant.short);
    }

pub returns-in_default-clause-first : goal.returns-in_default-clause-first
returns-in_default-clause-first c =
    let lines = lines_of c.args.text.now in
    let i = c.loop-i._i in
    let within : i < c.args.lines = search rules in
    behind_none c.args.lines lines (omega (arith, length-drop i lines, ap length c.loop-i.invariant.same, ap length c.in_default.ensures, within))
