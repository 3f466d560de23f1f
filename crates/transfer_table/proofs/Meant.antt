-- If all sites are meant and none was skipped, all were registered.
use Rattle.std.proofs.Common.{◌≡◌, ℕ, ◌-◌, Bool, true, false, not, nat_le, ◌&&◌, if◌then◌else◌, List, sym, ap, ◌∙◌, arith}
use Rattle.std.specs.Option.{is_some}
use Rattle.std.proofs.lemmas.List.{get_or-replicate}
use Rattle.transfer_table.specs.Plan.{Plan, IsPlan, IsSite, site_count}
use Rattle.transfer_table.specs.Table.{TableState, row, is_gone}
use Rattle.transfer_table.specs.Journal.{Reaches, AllGone, AreMeant, is_meant, all_meant}
use Rattle.transfer_table.specs.Entry.{registers, skips_over}
use Rattle.transfer_table.specs.declared.entry.Stage.{Stage}
use Rattle.transfer_table.specs.declared.entry.Entry.{Entry}
use Rattle.transfer_table.specs.declared.entry.Stage.TheVariants.{Gone}
use Rattle.transfer_table.proofs.Balance.{rows_report}

-- A site of a plan is meant if all are.
pub all_are_meant : (p : Plan) (s : ℕ) → IsSite p s → is_meant (all_meant p) s ≡ true
all_are_meant p s site = get_or-replicate (site_count p) (s - 1) true false (omega (arith, site.0, site.1))

came_once : (home : Bool) (r k : ℕ) → r ≡ (if home then 1 else 0) → k ≡ (if not home then 1 else 0) → k ≡ 0 → r ≡ 1
came_once true r k came skipped none = came
came_once false r k came skipped none = absurd (omega (arith, skipped, none))

-- A gone site that nothing skipped was registered once.
pub gone_came : (p : Plan) (es : List Entry) (t : TableState) → IsPlan p → Reaches p es t → (s : ℕ) → IsSite p s → (row t s).stage ≡ Gone → skips_over p s es ≡ 0 → registers s es ≡ 1
gone_came p es t plan reached s site gone none =
    let counts = rows_report p plan es t reached s site in
    came_once (is_some (row t s).home) (registers s es) (skips_over p s es) counts.came
    (counts.skipped ∙ ap (λ (g : Stage). if (is_gone g && not (is_some (row t s).home)) then 1 else 0) gone) none

-- If all sites are gone and none was skipped, all were registered.
pub all_came : (p : Plan) (es : List Entry) (t : TableState) → IsPlan p → Reaches p es t → AllGone p t → ((s : ℕ) → IsSite p s → skips_over p s es ≡ 0) → AreMeant p (all_meant p) es
all_came p es t plan reached gone none s site = ap (nat_le 1) (gone_came p es t plan reached s site (gone s site) (none s site)) ∙ sym (all_are_meant p s site)
