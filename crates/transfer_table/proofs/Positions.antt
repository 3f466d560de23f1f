-- A state keeps its size. What each entry of a legal list keeps holds at the list's end.
use Rattle.std.proofs.Common.{◌≡◌, ℕ, ◌-◌, List, [], ◌∷◌, ◌++◌, refl, sym, subst, ◌∙◌, length-set, Ok}
use Rattle.std.proofs.lemmas.List.{length-replicate}
use Rattle.transfer_table.specs.Plan.{Plan, IsPlan, IsHart, IsSite, parent, site_count}
use Rattle.transfer_table.specs.Table.{TableState, Position, IsPosition, IsAnswer, effect_of, first_state, owner, row, blank}
use Rattle.transfer_table.specs.Journal.{Reaches}
use Rattle.transfer_table.specs.Allowed.{IsAllowed}
use Rattle.transfer_table.specs.declared.entry.Stage.TheVariants.{New}
use Rattle.transfer_table.specs.declared.entry.Entry.{Entry}
use Rattle.transfer_table.specs.declared.entry.Entry.TheVariants.{Register, Request, Enter, Yield, Unregister, Skip}
use Rattle.transfer_table.proofs.Admits.{admits, admits_skip, admitted}
use Rattle.transfer_table.proofs.Replays.{kept, reaches-snoc}
use Rattle.transfer_table.proofs.Sweeps.{length-swept}

-- A plan and a state that fit together.
abbrev pub Fits : Plan → TableState → Type 0
Fits p t = IsPosition record { plan = p; state = t }

pub fits_first : (p : Plan) → IsPlan p → Fits p (first_state p)
fits_first p is = record { plan = is; owners = length-replicate p.harts 0; rows = length-replicate (site_count p) blank }

pub fits_effect : (p : Plan) (t : TableState) (e : Entry) → Fits p t → Fits p (effect_of p t e)
fits_effect p t (Register h s) f = record { plan = f.plan; owners = length-set t.owners h s ∙ f.owners; rows = length-set t.rows (s - 1) _ ∙ f.rows }
fits_effect p t (Request h s k) f = record { plan = f.plan; owners = f.owners; rows = length-set t.rows (s - 1) _ ∙ f.rows }
fits_effect p t (Enter h s) f = record { plan = f.plan; owners = length-set t.owners h s ∙ f.owners; rows = length-set t.rows (s - 1) _ ∙ f.rows }
fits_effect p t (Yield h s) f = record { plan = f.plan; owners = length-set t.owners h _ ∙ f.owners; rows = f.rows }
fits_effect p t (Unregister h s) f = record { plan = f.plan; owners = length-set t.owners h _ ∙ f.owners; rows = length-set t.rows (s - 1) _ ∙ f.rows }
fits_effect p t (Skip h s) f = record { plan = f.plan; owners = f.owners; rows = length-swept p s t.rows 1 ∙ f.rows }

-- After a legal list, plan and state fit together.
pub legal_position : (p : Plan) → IsPlan p → (es : List Entry) (t : TableState) → Reaches p es t → Fits p t
legal_position p is es t leads = kept p (λ _ u. Fits p u) (fits_first p is) (λ xs u v e before f a. subst (Fits p) (sym (admitted p u e v f a).1) (fits_effect p u e f)) es t leads

-- What holds at first, and is kept by each allowed entry, holds after each legal list.
pub lasts : (p : Plan) → IsPlan p → (P : List Entry → TableState → Type 0) → P [] (first_state p)
    → ((es : List Entry) (t : TableState) (e : Entry) → Reaches p es t → Fits p t → P es t → IsAllowed p t e → P (es ++ e ∷ []) (effect_of p t e))
    → (es : List Entry) (t : TableState) → Reaches p es t → P es t
lasts p is P start step es t leads = kept p P start (λ xs u v e before holds a. let f = legal_position p is xs u before in let d = admitted p u e v f a in subst (P (xs ++ e ∷ [])) (sym d.1) (step xs u e before f holds d.0)) es t leads

-- A legal list continues with an allowed entry.
pub reaches-allowed : (p : Plan) → IsPlan p → (es : List Entry) (t : TableState) (e : Entry) → Reaches p es t → IsAllowed p t e → Reaches p (es ++ e ∷ []) (effect_of p t e)
reaches-allowed p plan es t e leads a = reaches-snoc p es e t (effect_of p t e) leads (admits p t e (legal_position p plan es t leads) a)

-- An allowed skip returns `Ok`.
pub answer-skip : (old new : Position) (h s : ℕ) → IsPosition old → IsHart old.plan h → IsSite old.plan s → owner old.state h ≡ parent old.plan s → (row old.state s).stage ≡ New
    → new ≡ record { plan = old.plan; state = effect_of old.plan old.state (Skip h s) } → IsAnswer old new (Skip h s) (Ok tt)
answer-skip old new h s fits hart site own new_site is = subst (λ (n : Position). IsAnswer old n (Skip h s) (Ok tt)) (sym is) record {
  plan = refl;
  kept = fits_effect old.plan old.state (Skip h s) fits;
  ok = admits_skip old.plan old.state h s hart site own new_site;
  err = tt;
  unchanged = tt;
}
