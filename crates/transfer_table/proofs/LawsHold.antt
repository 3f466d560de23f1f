-- The laws of the table hold.
use Rattle.transfer_table.specs.Table.{first_state}
use Rattle.transfer_table.specs.Laws.{AllowedIsAdmitted, EntriesAreInThePlan, HartsAreConserved, HomesStayInside, IdleHartsStay, LegalListsAreShort, NewRowsAreBlank, ParentsOutliveChildren, PrefixesAreLegal, RowsReportEntries, SitesComeAndGoOnce, WishesBalance, ChildrenOfNewAreNew, SitesBeginOnce, WithinIsTested}
use Rattle.transfer_table.proofs.Admits.{admits, admitted}
use Rattle.transfer_table.proofs.Replays.{replay_from-append}
use Rattle.transfer_table.proofs.Bounds.{legal_length, legal_owner, legal_parent}
use Rattle.transfer_table.proofs.Stages.{legal_blank, legal_children, legal_new_children}
use Rattle.transfer_table.proofs.Within as within
use Rattle.transfer_table.proofs.Homes.{legal_home}
use Rattle.transfer_table.proofs.Balance.{legal_balance, legal_by_home, legal_entries, rows_report, complete_came, complete_skipped}
use Rattle.transfer_table.proofs.Begins.{legal_begins}
use Rattle.transfer_table.proofs.Makers.{legal_idle}
use Rattle.transfer_table.proofs.Held.{legal_held, complete_owner}

pub harts_are_conserved : HartsAreConserved
harts_are_conserved p es t plan is = (legal_owner p plan es t is, legal_held p plan es t is)

pub parents_outlive_children : ParentsOutliveChildren
parents_outlive_children p es t plan is = (legal_parent p plan es t is, legal_children p plan es t is)

pub homes_stay_inside : HomesStayInside
homes_stay_inside p es t plan is = legal_home p plan es t is

pub wishes_balance : WishesBalance
wishes_balance p es t plan is = (legal_by_home p plan es t is, λ s site. let b = legal_balance p plan es t is s site in (b.wished, b.asked, b.few))

pub legal_lists_are_short : LegalListsAreShort
legal_lists_are_short p es plan is = legal_length p plan es is.0 is.1

pub sites_come_and_go_once : SitesComeAndGoOnce
sites_come_and_go_once p meant es t plan is gone are = (complete_owner p plan es t is gone, complete_came p plan meant es t is gone are, complete_skipped p plan meant es t is gone are)

pub prefixes_are_legal : PrefixesAreLegal
prefixes_are_legal p xs ys is = let r = replay_from-append p xs ys (first_state p) is.0 is.1 in (r.0, r.1)

pub allowed_is_admitted : AllowedIsAdmitted
allowed_is_admitted p t e fits = (admits p t e fits, λ u is. admitted p t e u fits is)

pub entries_are_in_the_plan : EntriesAreInThePlan
entries_are_in_the_plan p es t plan is = legal_entries p plan es t is

pub new_rows_are_blank : NewRowsAreBlank
new_rows_are_blank p es t plan is = legal_blank p plan es t is

pub idle_harts_stay : IdleHartsStay
idle_harts_stay p es t plan is h none = let i = legal_idle p plan es t is h none in (i.base, i.homeless)

pub within_is_tested : WithinIsTested
within_is_tested p s o plan site in_plan = within.within_is_tested p s o plan site in_plan

pub children_of_new_are_new : ChildrenOfNewAreNew
children_of_new_are_new p es t plan is = legal_new_children p plan es t is

pub rows_report_entries : RowsReportEntries
rows_report_entries p es t plan is = rows_report p plan es t is

pub sites_begin_once : SitesBeginOnce
sites_begin_once p es t plan is = legal_begins p plan es t is
