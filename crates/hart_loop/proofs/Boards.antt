-- The harts of a board, before a run and after it. A hart is seen as a seat of either board.
use Rattle.std.proofs.Common.{◌≡◌, ◌<◌, ◌∙◌, ◌+◌, ℕ, false, List, [], ◌∷◌, ◌++◌, length, map, get_or, ap, sym, subst, arith}
use Rattle.std.proofs.lemmas.List.Elements.{AllZip-get_or}
use Rattle.std.proofs.lemmas.Slice.Zip.{AllZip-long}
use Rattle.transfer_table.specs.Plan.{Plan, site_count}
use Rattle.transfer_table.proofs.Lists.{replicate_at}
use Rattle.hart_port.specs.PortView.{PortView, is_in}
use Rattle.hart_port.specs.Ledger.{no_site}
use Rattle.hart_loop.specs.Harts.{StartsIn, IsAt, IsSameHart, AllStart, AreSame, AreBack}
use Rattle.hart_loop.proofs.Crews.{zip_map, all_of_map}

-- Hart h of an unused board.
pub record IsNewHart (name : List ℕ) (p : Plan) (h : ℕ) (v : PortView) : Type 0 where
  pub at : IsAt name p h v
  pub starts : StartsIn p v

-- The view of such a hart.
abbrev pub fresh : List ℕ → Plan → ℕ → PortView
fresh name p h = record {
  plan = p;
  hart = h;
  owner = 0;
  mine = [];
  homes = no_site p;
  closed = no_site p;
  empty = no_site p;
  gone = no_site p;
  alone = false;
  table = name;
}

pub new_hart : (name : List ℕ) (p : Plan) (h : ℕ) (v : PortView) → v ≡ fresh name p h → IsNewHart name p h v
new_hart name p h v is = record {
  at = record {
    plan = ap (λ (w : PortView). w.plan) is;
    hart = ap (λ (w : PortView). w.hart) is;
    table = ap (λ (w : PortView). w.table) is;
  };
  starts = record {
    plan = ap (λ (w : PortView). w.plan) is;
    shared = ap (λ (w : PortView). w.alone) is;
    base = ap (λ (w : PortView). w.owner) is;
    inner = λ s inner. ap (λ (w : PortView). is_in w.homes s) is ∙ replicate_at (site_count p + 1) s false;
  };
}

module _ {Q : Type 0} (seen : Q → PortView) where
  -- The hart at index h is hart h.
  abbrev pub AreNew : List ℕ → Plan → List Q → Type 0
  AreNew name p qs = (h : ℕ) (d : Q) → h < length qs → IsNewHart name p h (seen (get_or qs h d))

  -- Harts of a new board have returned.
  new_back : (name : List ℕ) (p : Plan) (qs ws : List Q) → length qs ≡ p.harts → AreNew name p qs → AreSame seen qs ws → AreBack seen name p ws
  new_back name p qs ws count new same = record {
    count = long ∙ count;
    each = λ h d below.
        let inside : h < length qs = omega (arith, below, long) in
        let at = (new h d inside).at in
        let kept : IsSameHart (seen (get_or qs h d)) (seen (get_or ws h d)) = AllZip-get_or _ qs ws h d d same inside in
        record {
          plan = kept.plan ∙ at.plan;
          hart = kept.hart ∙ at.hart;
          table = kept.table ∙ at.table;
        };
  }
    where
      long : length ws ≡ length qs
      long = AllZip-long _ qs ws same

  -- A hart that ran alone is the last of those that returned.
  pub one_back : (x : Q) (xs ys rest : List Q) (y : Q) → xs ≡ x ∷ [] → ys ≡ rest ++ y ∷ [] → AreSame seen xs ys → IsSameHart (seen x) (seen y)
  one_back x xs ys rest y one last same = found rest (subst (AreSame seen (x ∷ [])) last (subst (λ qs. AreSame seen qs ys) one same))
    where
      found : (rest : List Q) → AreSame seen (x ∷ []) (rest ++ y ∷ []) → IsSameHart (seen x) (seen y)
      found [] both = both.0
      found (r ∷ []) both = absurd both.1
      found (r ∷ s ∷ more) both = absurd both.1

  -- Ports of these seats.
  module _ {P : Type 0} (seat_of : P → Q) where
    pub ports_start : (name : List ℕ) (p : Plan) (qs : List Q) (xs : List P) → AreNew name p qs → map seat_of xs ≡ qs → AllStart (λ x. seen (seat_of x)) p xs
    ports_start name p qs xs new are = all_of_map seat_of (λ q. StartsIn p (seen q)) xs (subst (AllStart seen p) (sym are) (λ h d below. (new h d below).starts))

    -- Harts that ran by these ports have returned with their seats.
    pub ports_back : (name : List ℕ) (p : Plan) (qs ws : List Q) (xs ys : List P) → length qs ≡ p.harts → AreNew name p qs → map seat_of xs ≡ qs → ws ≡ map seat_of ys
        → AreSame (λ x. seen (seat_of x)) xs ys → AreBack seen name p ws
    ports_back name p qs ws xs ys count new before after same =
        new_back name p qs ws count new
        (subst (AreSame seen qs) (sym after) (subst (λ ls. AreSame seen ls (map seat_of ys)) before (zip_map seat_of (λ q w. IsSameHart (seen q) (seen w)) xs ys same)))
