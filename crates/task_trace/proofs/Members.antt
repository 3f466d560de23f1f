-- What is written of one event more, and of one hart more.
use Rattle.std.proofs.Common.{◌≡◌, ◌≤◌, ◌<◌, ◌+◌, ◌++◌, ◌∙◌, ℕ, List, [], ◌∷◌, length, get_or, take, refl, sym, ap, arith, append_assoc}
use Rattle.std.proofs.lemmas.List.{append-nil, length-take-le, take_more}
use Rattle.std.specs.declared.alloc.Global.{Global}
use Rattle.std.specs.declared.vec.Vec.{Vec}
use Rattle.task_trace.specs.declared.event.Event.{Event}
use Rattle.task_trace.specs.Chrome.{event_members, hart_members, members_from}

hart_append : (hart : ℕ) (es fs : List Event) → hart_members hart (es ++ fs) ≡ hart_members hart es ++ hart_members hart fs
hart_append hart [] fs = refl
hart_append hart (e ∷ es) fs =
    ap (λ ms. event_members hart e ++ ms) (hart_append hart es fs) ∙ sym (append_assoc (event_members hart e) (hart_members hart es) (hart_members hart fs))

-- One event more.
pub hart_more : (hart : ℕ) (es : List Event) (i : ℕ) (d : Event) → i < length es
    → hart_members hart (take (i + 1) es) ≡ hart_members hart (take i es) ++ event_members hart (get_or es i d)
hart_more hart es i d lt =
    ap (hart_members hart) (take_more es i d lt)
    ∙ (hart_append hart (take i es) (get_or es i d ∷ []) ∙ ap (λ ms. hart_members hart (take i es) ++ ms) (append-nil (event_members hart (get_or es i d))))

members_append : (k : ℕ) (hs gs : List (Vec Event Global)) → members_from k (hs ++ gs) ≡ members_from k hs ++ members_from (k + length hs) gs
members_append k [] gs = let e : k ≡ k + 0 = omega arith in ap (λ n. members_from n gs) e
members_append k (h ∷ hs) gs =
    let e : k + 1 + length hs ≡ k + length (h ∷ hs) = omega arith in
    ap (λ ms. hart_members k h.items ++ ms) (members_append (k + 1) hs gs ∙ ap (λ n. members_from (k + 1) hs ++ members_from n gs) e)
    ∙ sym (append_assoc (hart_members k h.items) (members_from (k + 1) hs) (members_from (k + length (h ∷ hs)) gs))

-- One hart more.
pub members_more : (hs : List (Vec Event Global)) (i : ℕ) (h : Vec Event Global) → i < length hs → h ≡ get_or hs i h
    → members_from 0 (take (i + 1) hs) ≡ members_from 0 (take i hs) ++ hart_members i h.items
members_more hs i h lt is =
    let n : 0 + length (take i hs) ≡ i = omega (arith, length-take-le i hs (omega (arith, lt))) in
    ap (members_from 0) (take_more hs i h lt ∙ ap (λ x. take i hs ++ x ∷ []) (sym is))
    ∙ (members_append 0 (take i hs) (h ∷ []) ∙ (ap (λ k. members_from 0 (take i hs) ++ members_from k (h ∷ [])) n
    ∙ ap (λ ms. members_from 0 (take i hs) ++ ms) (append-nil (hart_members i h.items))))
