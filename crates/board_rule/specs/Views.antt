-- How each kind of step changes the view of the seat that takes the step.
use Rattle.std.specs.Prelude.{ℕ, ◌+◌, ◌==◌, if◌then◌else◌, [], ◌∷◌, ◌++◌, Some, None}
use Rattle.transfer_table.specs.Plan.{Plan, parent}
use Rattle.transfer_table.specs.declared.entry.Entry.{Entry}
use Rattle.transfer_table.specs.declared.entry.Entry.TheVariants.{Register, Request, Enter, Yield, Unregister, Skip}
use Rattle.hart_port.specs.Words.{is_claimed, is_closed, flight_of}
use Rattle.hart_port.specs.PortView.{is_in, with_site, without}
use Rattle.hart_port.specs.Ledger.{no_site}
use Rattle.board_rule.specs.Words.{others_at}
use Rattle.board_rule.specs.declared.layout.Layout.{Layout}
use Rattle.board_rule.specs.declared.layout.Layout.TheVariants.{Owners, Guests}
use Rattle.board_rule.specs.Layouts.{after_enter, after_yield}
use Rattle.board_rule.specs.Counts.{busy_at}
use Rattle.board_rule.specs.declared.view.View.{View}
use Rattle.board_rule.specs.declared.view.Look.{Look}
use Rattle.board_rule.specs.declared.view.LookKind.{LookKind}
use Rattle.board_rule.specs.declared.view.LookKind.TheVariants as look
use Rattle.board_rule.specs.declared.view.Marks.{Marks}
use Rattle.board_rule.specs.declared.view.Doing.TheVariants.{Idle, Claiming, Crediting, Reserved, Sealing}
use Rattle.board_rule.specs.Sets.{union}

-- ---- seats that are made, split and joined

-- The marks of no site.
abbrev pub no_marks : Plan → Marks
no_marks p = record {
  homes = no_site p;
  closed = no_site p;
  drained = no_site p;
  empty = no_site p;
  gone = no_site p;
}

-- The view of a hart's new seat.
abbrev pub fresh_view : Plan → ℕ → View
fresh_view p h = record {
  plan = p;
  hart = h;
  owner = 0;
  mine = [];
  places = [];
  drawn = None;
  doing = Idle;
  marks = no_marks p;
  looks = [];
  made = 0;
  ended = [];
}

-- The view of the first seat, which is hart 0's.
abbrev pub first_view : Plan → View
first_view p = record (fresh_view p 0) { made = 1 }

-- The view of hart 0's seat after the next hart's seat is split off.
abbrev pub split_left : View → View
split_left v = record v { made = v.made + 1 }

-- The view of the seat that is split off.
abbrev pub split_right : View → View
split_right v = fresh_view v.plan v.made

-- The view of hart 0's seat after another hart's seat is joined into it. The join clears the marks of sites seen empty, since
-- hart 0 may learn by the join that a child of such a site is gone.
abbrev pub joined_view : View → View → View
joined_view v w = record v {
  ended = v.ended ++ record { hart = w.hart; mine = w.mine; places = w.places } ∷ [];
  marks = record v.marks { empty = no_site v.plan; gone = union v.marks.gone w.marks.gone };
}

-- The view of a seat that was joined into hart 0's.
abbrev pub spent_view : View
spent_view = fresh_view record { harts = 0; parents = [] } 255

-- ---- looks: the view after a look without the noted word, and the view with that word

-- A noted word of site x.
abbrev pub look_at : ℕ → LookKind → ℕ → Look
look_at x kind found = record { site = x; kind = kind; found = found }

-- The view with one more word that was read.
abbrev pub looked : ℕ → LookKind → ℕ → View → View
looked x kind found v = record v { looks = v.looks ++ look_at x kind found ∷ [] }

-- The view after a look at the site's word.
abbrev pub glance_view : ℕ → ℕ → View → View
glance_view x found v = looked x look.Look found v

-- The marks after the site is seen gone. The first such look clears the mark that the site's parent was seen empty, since a hart
-- may have come from the site to the parent after that mark was set.
abbrev pub gone_marks : Plan → ℕ → Marks → Marks
gone_marks p x m = record m {
  gone = with_site m.gone x;
  empty = if is_in m.gone x then m.empty else without m.empty (parent p x);
}

-- The view after a look that checks that a site is gone, without the noted word.
abbrev pub see_gone_next : ℕ → ℕ → View → View
see_gone_next x found v = record v {
  marks = if is_closed found then gone_marks v.plan x v.marks else v.marks;
}

-- The view after a look that checks that a site is gone.
abbrev pub see_gone_view : ℕ → ℕ → View → View
see_gone_view x found v = looked x look.Look found (see_gone_next x found v)

-- The marks after the owner's word was seen without a guest.
abbrev pub drained_marks : View → Marks
drained_marks v = record v.marks { drained = with_site v.marks.drained v.owner }

-- The marks after the owner was seen without a guest and empty.
abbrev pub empty_marks : View → Marks
empty_marks v = record v.marks {
  drained = with_site v.marks.drained v.owner;
  empty = with_site v.marks.empty v.owner;
}

-- The marks after the owner's word was seen without a guest, in this layout.
abbrev pub marks_without : Layout → View → Marks
marks_without Owners v = drained_marks v
marks_without Guests v = empty_marks v

-- The view after a look that checks that the owner's word has no guest, without the noted word.
abbrev pub see_drained_next : Layout → ℕ → View → View
see_drained_next lay found v = record v {
  marks = if flight_of found == 0 then marks_without lay v else v.marks;
}

-- The view after a look that checks that the owner's word has no guest.
abbrev pub see_drained_view : Layout → ℕ → View → View
see_drained_view lay found v = looked v.owner look.Look found (see_drained_next lay found v)

-- The view after a look at a first word that checks that no other hart is in the owner, without the noted word.
abbrev pub see_empty_next : ℕ → View → View
see_empty_next found v = record v {
  marks = if others_at v.plan.harts found v.hart v.owner then v.marks else record v.marks {
    empty = with_site v.marks.empty v.owner;
  };
}

-- The view after a look at a first word that checks that no other hart is in the owner.
abbrev pub see_empty_view : ℕ → View → View
see_empty_view found v = looked 0 look.LookAtBoard found (see_empty_next found v)

-- ---- steps on a site's word

-- The view after a claim that found this word, without the noted word.
abbrev pub claim_next : ℕ → ℕ → View → View
claim_next x found v = record v { doing = if is_claimed found then v.doing else Claiming x }

-- The view after a claim.
abbrev pub claim_view : ℕ → ℕ → View → View
claim_view x found v = looked x look.Claim found (claim_next x found v)

-- The view after a reservation whose exchange expected w, without the noted word.
abbrev pub reserve_next : ℕ → ℕ → ℕ → View → View
reserve_next x w found v = record v { doing = if found == w then Reserved x else v.doing }

-- The view after a reservation whose exchange expected w.
abbrev pub reserve_view : ℕ → ℕ → ℕ → View → View
reserve_view x w found v = looked x look.Reserve found (reserve_next x w found v)

-- The view after a credit, a landing, a leave or a seal: no step is pending.
abbrev pub done_view : View → View
done_view v = record v { doing = Idle }

-- The view after the seat has closed its owner.
abbrev pub close_view : View → View
close_view v = record v { marks = record v.marks { closed = with_site v.marks.closed v.owner } }

-- ---- steps on a journal word

-- The view after the entry is written into the journal.
abbrev pub jot_view : View → View
jot_view v = record v { drawn = None }

-- ---- steps on the first word: each reserves the index of its entry

-- The marks after a site is registered.
abbrev pub home_marks : ℕ → Marks → Marks
home_marks x m = record m {
  homes = with_site m.homes x;
  closed = without m.closed x;
  drained = without m.drained x;
  empty = without m.empty x;
}

-- The marks after a site is unregistered.
abbrev pub left_marks : ℕ → Marks → Marks
left_marks x m = record m {
  homes = without m.homes x;
  closed = without m.closed x;
  drained = without m.drained x;
  empty = without m.empty x;
}

-- The view after the seat has made the entry and reserved this index for it, with the owner o.
abbrev pub made_entry : Entry → ℕ → ℕ → View → View
made_entry e o place v = record v {
  owner = o;
  mine = v.mine ++ e ∷ [];
  places = v.places ++ place ∷ [];
  drawn = Some record { place = place; entry = e };
}

-- The view after a Register.
abbrev pub register_view : ℕ → View → View
register_view place v = let x : ℕ = busy_at v.doing in record
    (made_entry (Register v.hart x) x place v) { doing = Idle; marks = home_marks x v.marks }

-- The view after a Request of k harts.
abbrev pub request_view : ℕ → ℕ → View → View
request_view k place v = record (made_entry (Request v.hart v.owner k) v.owner place v) {
  doing = Crediting v.owner k;
}

-- The view after an Enter.
abbrev pub enter_view : Layout → ℕ → View → View
enter_view lay place v = let x : ℕ = busy_at v.doing in
    record (made_entry (Enter v.hart x) x place v) { doing = after_enter lay x }

-- The view after a Yield.
abbrev pub yield_view : Layout → ℕ → View → View
yield_view lay place v =
    record (made_entry (Yield v.hart v.owner) (parent v.plan v.owner) place v) {
      doing = after_yield lay v.owner;
    }

-- The view after an Unregister.
abbrev pub unregister_view : ℕ → View → View
unregister_view place v =
    record (made_entry (Unregister v.hart v.owner) (parent v.plan v.owner) place v) {
      doing = Sealing v.owner;
      marks = left_marks v.owner v.marks;
    }

-- The view after a Skip. The owner stays, and the seat has still to seal the skipped site.
abbrev pub skip_view : ℕ → View → View
skip_view place v = let x : ℕ = busy_at v.doing in record (made_entry (Skip v.hart x) v.owner place v) {
  doing = Sealing x;
}
