-- Lists of ends of which one changes.
use Rattle.std.proofs.Common.{◌≡◌, ℕ, ◌<◌, List, length, map, set, get_or, sym, ap, ◌∙◌}
use Rattle.std.proofs.lemmas.List.{get_or-map, map-set}
use Rattle.std.proofs.Math.Seq.{map-set_same}
use Rattle.std.proofs.Math.ListN.{get_or-map as get_or-map_same}
use Rattle.deque_rows.specs.declared.account.Log.{Log}
use Rattle.deque_rows.specs.declared.ends.StealingEnd.{StealingEnd}
use Rattle.deque_rows.specs.Account.{idle}
use Rattle.deque_rows.specs.Lines.{end_log, end_name}

pub end_names : (xs : List StealingEnd) (i : ℕ) (y was : StealingEnd) → was ≡ get_or xs i was → end_name y ≡ end_name was → map end_name (set xs i y) ≡ map end_name xs
end_names xs i y was is same = map-set_same end_name xs i y was (same ∙ ap end_name is)

pub end_logs : (xs : List StealingEnd) (i : ℕ) (y : StealingEnd) (w : Log) → end_log y ≡ w → map end_log (set xs i y) ≡ set (map end_log xs) i w
end_logs xs i y w is = map-set end_log xs i y ∙ ap (λ (u : Log). set (map end_log xs) i u) is

pub end_parts : (xs : List StealingEnd) (i : ℕ) (y was : StealingEnd) → was ≡ get_or xs i was → (end_log y).parts ≡ (end_log was).parts → map (λ (v : Log). v.parts) (map end_log (set xs i y)) ≡ map (λ (v : Log). v.parts) (map end_log xs)
end_parts xs i y was is same =
    let at : get_or (map end_log xs) i (end_log was) ≡ end_log was = get_or-map_same end_log xs i was ∙ ap end_log (sym is) in
    ap (λ l. map (λ (v : Log). v.parts) l) (map-set end_log xs i y)
    ∙ map-set_same (λ (v : Log). v.parts) (map end_log xs) i (end_log y) (end_log was) (same ∙ ap (λ (v : Log). v.parts) (sym at))

pub end_at : (xs : List StealingEnd) (i : ℕ) (was : StealingEnd) → was ≡ get_or xs i was → i < length xs → end_log was ≡ get_or (map end_log xs) i idle
end_at xs i was is there = ap end_log is ∙ sym (get_or-map end_log xs i was idle there)

-- An end whose log stayed leaves the list of logs as it was.
pub end_kept : (xs : List StealingEnd) (i : ℕ) (y was : StealingEnd) → was ≡ get_or xs i was → end_log y ≡ end_log was → map end_log (set xs i y) ≡ map end_log xs
end_kept xs i y was is same = map-set_same end_log xs i y was (same ∙ ap end_log is)
