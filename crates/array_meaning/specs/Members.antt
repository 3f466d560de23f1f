-- How a team deals its iterations to its members.
use Rattle.std.specs.Prelude.{ℕ, zero, suc, ◌+◌, ◌*◌, ◌/◌, List, [], ◌∷◌, ℤ, pos, ◌+ℤ◌}
use Rattle.array_meaning.specs.Stores.{Vars}
use Rattle.array_meaning.specs.Steps.{Steps}
use Rattle.array_meaning.specs.Work.{Work, span, loop}

-- The first of n iterations of member j of m, counted from the team's first.
abbrev pub first_of : ℕ → ℕ → ℕ → ℕ
first_of n m j = n * j / m

-- The value of the variable in the first iteration of member j of m. The member's iterations end before those of the next
-- begin.
abbrev pub start_of : ℤ → ℤ → ℕ → ℕ → ℤ
start_of low high m j = low +ℤ pos (first_of (span low high) m j)

-- The work of a member is the loop over its own iterations.
abbrev pub member_work : List ℕ → ℤ → ℤ → ℕ → Work → ℕ → Work
member_work var low high m body j =
    loop var (start_of low high m j) (start_of low high m (j + 1)) body

-- The works of so many members, from member j on.
abbrev pub member_works : List ℕ → ℤ → ℤ → ℕ → Work → ℕ → ℕ → Vars → List Steps
member_works var low high m body j zero vars = []
member_works var low high m body j (suc k) vars =
    member_work var low high m body j vars ∷ member_works var low high m body (j + 1) k vars

-- The works of all members in one phase.
abbrev pub team_works : List ℕ → ℤ → ℤ → ℕ → Work → Vars → List Steps
team_works var low high m body vars = member_works var low high m body 0 m vars
