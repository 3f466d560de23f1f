-- The conditions on a seat's view under which the seat may take each kind of step.
use Rattle.std.specs.Prelude.{◌≡◌, ◌≢◌, ℕ, ◌+◌, ◌-◌, ◌≤◌, true, false, None}
use Rattle.transfer_table.specs.Plan.{Plan, IsSite, parent}
use Rattle.transfer_table.specs.Entry.{requested}
use Rattle.hart_port.specs.Words.{is_wanted}
use Rattle.hart_port.specs.PortView.{is_in}
use Rattle.board_rule.specs.declared.view.View.{View}
use Rattle.board_rule.specs.declared.view.Doing.{Doing}
use Rattle.board_rule.specs.declared.view.Doing.TheVariants.{Idle}
use Rattle.board_rule.specs.Rule.{SawChildren}

-- The seat has no pending step and no entry to write.
abbrev pub IsReady : View → Type 0
IsReady v = (v.doing ≡ Idle) × (v.drawn ≡ None)

-- The seat has written its entry, and this is its pending step.
abbrev pub MayFollow : View → Doing → Type 0
MayFollow v todo = (v.doing ≡ todo) × (v.drawn ≡ None)

-- The seat is ready, and the site is a child of the owner.
abbrev pub MayClaim : Plan → View → ℕ → Type 0
MayClaim p v x = IsReady v × IsSite p x × (v.owner ≡ parent p x)

-- The seat is ready, the site is a child of the owner, and the word that was read wants a hart.
abbrev pub MayReserve : Plan → View → ℕ → ℕ → Type 0
MayReserve p v x word = IsReady v × IsSite p x × (v.owner ≡ parent p x) × (is_wanted word ≡ true)

-- The seat is ready, and its hart is the owner's home and requests at least one hart and not too many.
abbrev pub MayRequest : Plan → View → ℕ → Type 0
MayRequest p v k = IsReady v × (is_in v.marks.homes v.owner ≡ true) × (1 ≤ k)
    × (requested v.owner v.mine + k ≤ p.harts - 1)

-- The seat is ready, and its hart is a guest of the owner.
abbrev pub MayYield : View → Type 0
MayYield v = IsReady v × (v.owner ≢ 0) × (is_in v.marks.homes v.owner ≡ false)

-- The seat is ready, and its hart is the owner's home.
abbrev pub MayClose : View → Type 0
MayClose v = IsReady v × (is_in v.marks.homes v.owner ≡ true)

-- The seat is ready, and has closed the owner.
abbrev pub MaySeeDrained : View → Type 0
MaySeeDrained v = IsReady v × (is_in v.marks.closed v.owner ≡ true)

-- The seat is ready, and has seen the owner's word without a guest.
abbrev pub MaySeeEmpty : View → Type 0
MaySeeEmpty v = IsReady v × (is_in v.marks.drained v.owner ≡ true)

-- The seat is ready, and has seen the owner empty and each child of the owner gone.
abbrev pub MayUnregister : Plan → View → Type 0
MayUnregister p v = IsReady v × (is_in v.marks.empty v.owner ≡ true) × SawChildren p v.marks v.owner
