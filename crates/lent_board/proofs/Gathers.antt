-- What a view has after joins.
use Rattle.std.proofs.Common.{◌≡◌, ◌≢◌, ℕ, zero, suc, ◌+◌, ◌-◌, ◌<◌, ◌≤◌, nat_le, Bool, true, false, not, cond, if◌then◌else◌, ◌||◌, ◌==◌, eq-eqb, eqb, List, [], ◌∷◌, length, take, get_or, slice_index_or, refl, sym, ap, ◌∙◌, subst, arith}
use mathlib.Core.Option.{some}
use mathlib.Core.Logic.{dite}
use native.Mathlib.Decide.{ℕ_discrete}
use Rattle.std.specs.List.{remove}
use Rattle.std.proofs.lemmas.Bool.Decides.{nat_tests}
use Rattle.std.proofs.lemmas.List.Filters.{sum_by-filter_both}
use Rattle.std.proofs.lemmas.List.{length-replicate}
use Rattle.atomic_table.proofs.Lists.{at_longer, at_last}
use Rattle.transfer_table.specs.Plan.{Plan, IsPlan, IsSite, site_count}
use Rattle.transfer_table.specs.Table.{row}
use Rattle.transfer_table.specs.Journal.{has_register, is_meant}
use Rattle.transfer_table.specs.Entry.{hart_of, site_of, is_register, made_by, registers}
use Rattle.transfer_table.specs.declared.entry.Stage.TheVariants.{Gone}
use Rattle.transfer_table.specs.declared.entry.Entry.{Entry}
use Rattle.transfer_table.proofs.Balance.{legal_entries}
use Rattle.hart_port.specs.PortView.{is_in}
use Rattle.board_rule.specs.declared.view.View.{View}
use Rattle.transfer_table.specs.Counts.{one_if}
use Rattle.board_rule.specs.Sums.{ended_as}
use Rattle.board_rule.specs.Views.{joined_view}
use Rattle.board_rule.specs.Sets.{union}
use Rattle.board_rule.specs.Ends.{AllEnded, IsJournal}
use Rattle.board_rule.specs.Rule.{FitsPlan}
use Rattle.board_rule.specs.Places.{AreAt}
use Rattle.board_rule.proofs.Totals.{total-one}
use Rattle.board_rule.proofs.Sets.{length-union}
use Rattle.lent_board.proofs.Makers.{maker, all_gone}
use Rattle.lent_board.specs.declared.seat.HartSeat.{HartSeat}
use Rattle.lent_board.specs.Seats.{HasOne, HasFrom, SawGone, IsJournalOf}

pub take_fewer : {A : Type 0} (xs : List A) (n m : ℕ) → n ≤ m → take n (take m xs) ≡ take n xs
take_fewer [] zero m le = refl
take_fewer [] (suc n) zero le = refl
take_fewer [] (suc n) (suc m) le = refl
take_fewer (x ∷ xs) zero m le = refl
take_fewer (x ∷ xs) (suc n) zero le = absurd (omega arith)
take_fewer (x ∷ xs) (suc n) (suc m) le = ap (λ z. x ∷ z) (take_fewer xs n m (omega arith))

pub taken_at : {A : Type 0} (xs : List A) (n i : ℕ) (d : A) → i < n → get_or (take n xs) i d ≡ get_or xs i d
taken_at [] zero i d lt = refl
taken_at [] (suc n) i d lt = refl
taken_at (x ∷ xs) zero i d lt = absurd (omega arith)
taken_at (x ∷ xs) (suc n) zero d lt = refl
taken_at (x ∷ xs) (suc n) (suc i) d lt = taken_at xs n i d (omega arith)

pub removed_at : {A : Type 0} (xs : List A) (i : ℕ) (d : A) → get_or (remove xs 0) i d ≡ get_or xs (suc i) d
removed_at [] i d = refl
removed_at (x ∷ xs) i d = refl

pub removed_length : {A : Type 0} (xs : List A) → 0 < length xs → length (remove xs 0) + 1 ≡ length xs
removed_length [] lt = absurd (omega arith)
removed_length (x ∷ xs) lt = omega arith

left_of : (a b : Bool) → a ≡ true → (a || b) ≡ true
left_of true b e = refl
left_of false b e = absurd (cc)

right_of : (a b : Bool) → b ≡ true → (a || b) ≡ true
right_of true b e = refl
right_of false b e = e

-- A site that either view knew to be gone is known to be gone.
union-left : (f g : List Bool) (x : ℕ) → is_in f x ≡ true → is_in (union f g) x ≡ true
union-left [] g x is = absurd (cc)
union-left (a ∷ f) [] x is = is
union-left (a ∷ f) (b ∷ g) zero is = left_of a b is
union-left (a ∷ f) (b ∷ g) (suc x) is = union-left f g x is

union-right : (f g : List Bool) (x : ℕ) → is_in g x ≡ true → is_in (union f g) x ≡ true
union-right [] g x is = is
union-right (a ∷ f) [] x is = absurd (cc)
union-right (a ∷ f) (b ∷ g) zero is = right_of a b is
union-right (a ∷ f) (b ∷ g) (suc x) is = union-right f g x is

pub gone_more : (v w u : View) → u ≡ joined_view v w → (x : ℕ) → is_in v.marks.gone x ≡ true → is_in u.marks.gone x ≡ true
gone_more v w u is x old = ap (λ (z : View). is_in z.marks.gone x) is ∙ union-left v.marks.gone w.marks.gone x old

-- The sets still have one flag per site.
pub fits_joined : (v w : View) → v.plan ≡ w.plan → FitsPlan v → FitsPlan w → FitsPlan (joined_view v w)
fits_joined v w same a b = record {
  owner = a.owner;
  flags = record {
    homes = a.flags.homes;
    closed = a.flags.closed;
    drained = a.flags.drained;
    empty = length-replicate (site_count v.plan + 1) false;
    gone = length-union v.marks.gone w.marks.gone (a.flags.gone ∙ sym (b.flags.gone ∙ ap (λ (p : Plan). site_count p + 1) (sym same))) ∙ a.flags.gone;
  };
  base = a.base;
}

pub has_more : (v w u : View) (all : List HartSeat) (n m : ℕ) → u ≡ joined_view v w → m ≡ n + 1 → HasFrom v all m → ((d : HartSeat) → (w.hart ≡ n + 1) × (w ≡ (slice_index_or all n d).seat.me.0)) → HasFrom u all n
has_more v w u all n m is next old new i d low high = let P : View → Type 0 = λ z. HasOne z (i + 1) (slice_index_or all i d).seat.me.0 in subst P (sym is) (dite (ℕ_discrete i n)
    (λ z. let e = new d in
    let same : w ≡ (slice_index_or all i d).seat.me.0 = e.1 ∙ ap (λ (q : ℕ). (slice_index_or all q d).seat.me.0) (sym z) in
    let Q : View → Type 0 = λ q. HasOne (joined_view v w) (i + 1) q in subst Q same (record {
      at = length v.ended;
      one = at_last v.ended record { hart = w.hart; mine = w.mine; places = w.places } (length v.ended) refl ∙ (λ k. some record { hart = (e.0 ∙ ap (λ (q : ℕ). q + 1) (sym z)) k; mine = w.mine; places = w.places });
      gone = λ x is_in_w. union-right v.marks.gone w.marks.gone x is_in_w;
    }))
    (λ not. let o = old i d (omega arith) high in record {
      at = o.at;
      one = at_longer v.ended (record { hart = w.hart; mine = w.mine; places = w.places } ∷ []) o.at _ o.one;
      gone = λ x is_in_q. union-left v.marks.gone w.marks.gone x (o.gone x is_in_q);
    }))

pub all_ended : (p : Plan) (v : View) (others : List HartSeat) (d : HartSeat) → length others + 1 ≡ p.harts → HasFrom v others 0 → AllEnded p v
all_ended p v others d count has h low lt = let o = has (h - 1) d (omega arith) (omega arith) in let m = total-one (ended_as h) v.ended o.at record { hart = h - 1 + 1; mine = (slice_index_or others (h - 1) d).seat.me.0.mine; places = (slice_index_or others (h - 1) d).seat.me.0.places } o.one in
    let one : one_if (eqb (h - 1 + 1) h) ≡ 1 = ap one_if (eq-eqb (h - 1 + 1) h (omega arith)) in omega arith

-- A hart registers a site at most as often as all harts together.
registers-fewer : (x h : ℕ) (es : List Entry) → registers x (made_by h es) ≤ registers x es
registers-fewer x h es = let f : Entry → ℕ = λ e. cond (if site_of e == x then is_register e else false) 1 0 in let both = sum_by-filter_both (λ (e : Entry). hart_of e == h) (λ (e : Entry). not (hart_of e == h)) (λ _. refl) f es in omega arith

as_meant : (b m : Bool) → (m ≡ true → b ≡ true) → (b ≡ true → m ≡ true) → b ≡ m
as_meant true true to from = refl
as_meant true false to from = sym (from refl)
as_meant false true to from = to refl
as_meant false false to from = refl

is_some_of : (n : ℕ) → 1 ≤ n → nat_le 1 n ≡ true
is_some_of n le = grind (arith, nat_tests)

some_of_is : (n : ℕ) → nat_le 1 n ≡ true → 1 ≤ n
some_of_is n e = grind (arith, nat_tests)

-- A journal has each seat's entries.
pub is_journal_of : (p : Plan) → IsPlan p → (v : View) (all : List HartSeat) (es : List Entry) → length all ≡ p.harts → ((d : HartSeat) → (v.mine ≡ (slice_index_or all 0 d).seat.me.0.mine) × (v.places ≡ (slice_index_or all 0 d).seat.me.0.places))
    → ((d : HartSeat) (x : ℕ) → is_in (slice_index_or all 0 d).seat.me.0.marks.gone x ≡ true → is_in v.marks.gone x ≡ true)
    → HasFrom v (remove all 0) 0 → IsJournal p v es → IsJournalOf p all es
is_journal_of p plan v all es count mine gone has j = record {
  table = j.table;
  legal = j.legal;
  each = λ h d lt. (each_of h d lt).0;
  placed = λ h d lt. (each_of h d lt).1;
  gone = seen;
  complete = λ meant tops made. (
    j.table,
    j.legal,
    all_gone p plan es j.table j.legal (λ x site top. (seen x (tops x site top)).1),
    λ x site. as_meant (has_register es x) (is_meant meant x)
        (λ m. let r = (made x site).0 m in let d = first_of r.0 all r.1 in let few = registers-fewer x r.0 es in let some = r.2 d in
        let same : registers x (made_by r.0 es) ≡ registers x (slice_index_or all r.0 d).seat.me.0.mine = ap (registers x) (each_of r.0 d (let lt = r.1 in omega arith)).0 in is_some_of (registers x es) (omega arith))
        (λ g. let k = maker (λ e. cond {A = ℕ} (if site_of e == x then is_register e else false) 1 0) p es (legal_entries p plan es j.table j.legal) (some_of_is (registers x es) g) in
        (made x site).1 (k.0, (let lt = k.1 in omega arith), λ d. subst (λ (l : List Entry). 1 ≤ registers x l) (each_of k.0 d k.1).0 k.2)),
  );
}
  where
    back' : (h : ℕ) → h ≢ 0 → h - 1 + 1 ≡ h
    back' h n = omega arith

    one : (h : ℕ) → h ≢ 0 → (d : HartSeat) → h < p.harts → HasOne v (h - 1 + 1) (slice_index_or (remove all 0) (h - 1) d).seat.me.0
    one h n d lt = let len = removed_length all (omega arith) in has (h - 1) d (omega arith) (omega arith)

    seat_at : (h : ℕ) → h ≢ 0 → (d : HartSeat) → slice_index_or (remove all 0) (h - 1) d ≡ slice_index_or all h d
    seat_at h n d = let back : suc (h - 1) ≡ h = omega arith in removed_at all (h - 1) d ∙ ap (λ (q : ℕ). slice_index_or all q d) back

    Own : ℕ → HartSeat → Type 0
    Own h q = (made_by h es ≡ q.seat.me.0.mine) × AreAt es q.seat.me.0.mine q.seat.me.0.places

    each_of : (h : ℕ) (d : HartSeat) → h < p.harts → Own h (slice_index_or all h d)
    each_of h d lt = dite (ℕ_discrete h 0)
        (λ z. let f = mine d in
        let own : Own 0 (slice_index_or all 0 d) = (j.first.0 ∙ f.0, subst (λ (q : List Entry × List ℕ). AreAt es q.0 q.1) (λ i. (f.0 i, f.1 i)) j.first.1) in
        subst (λ (q : ℕ). Own q (slice_index_or all q d)) (sym z) own)
        (λ n. let o = one h n d lt in subst (λ (q : ℕ × HartSeat). Own q.0 q.1) (λ i. (back' h n i, seat_at h n d i)) (j.others o.at _ o.one))

    known : (h : ℕ) (d : HartSeat) → h < p.harts → (x : ℕ) → is_in (slice_index_or all h d).seat.me.0.marks.gone x ≡ true → is_in v.marks.gone x ≡ true
    known h d lt x is = dite (ℕ_discrete h 0)
        (λ z. gone d x (ap (λ (q : ℕ). is_in (slice_index_or all q d).seat.me.0.marks.gone x) (sym z) ∙ is))
        (λ n. (one h n d lt).gone x (ap (λ (q : HartSeat). is_in q.seat.me.0.marks.gone x) (seat_at h n d) ∙ is))

    first_of : (h : ℕ) (xs : List HartSeat) → h < length xs → HartSeat
    first_of h [] lt = absurd (omega arith)
    first_of h (q ∷ qs) lt = q

    seen : (x : ℕ) → SawGone all x → IsSite p x × ((row j.table x).stage ≡ Gone)
    seen x saw = let d = first_of saw.0 all saw.1 in j.gone x (known saw.0 d (let lt = saw.1 in omega arith) x (saw.2 d))
