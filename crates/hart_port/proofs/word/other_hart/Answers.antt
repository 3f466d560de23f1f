-- One more hart: its field, which isn't the site, is removed from the word.
use Rattle.std.proofs.Common.{◌≡◌, ◌≢◌, ◌+◌, ◌/◌, ◌%◌, ◌^◌, ℕ, suc, ap, sym, ◌∙◌, arith}
use Rattle.std.proofs.Math.Nat.{div-div-eq-div-mul, pow-suc}
use borrow.Author.Count.{below_more}
use Rattle.hart_port.specs.Words.{owner_field}
use Rattle.hart_port.proofs.word.other_hart.Goals as goal
use Rattle.hart_port.proofs.word.other_hart.Goals.{else-other-hart-via-then-other-hart+else-rest-site, else-other-hart-via-else-other-hart}

shifted : (word rest n : ℕ) → rest ≡ word / 4096 ^ n → rest / 4096 ≡ word / 4096 ^ (n + 1)
shifted word rest n is = let more : n + 1 ≡ suc n = omega arith in
    ap (λ (x : ℕ). x / 4096) is ∙ div-div-eq-div-mul word (4096 ^ n) 4096 ∙ ap (λ (x : ℕ). word / x) (sym (pow-suc 4096 n)) ∙ ap (λ (x : ℕ). word / 4096 ^ x) (sym more)

pub loop-other-preserved : goal.loop-other-preserved
loop-other-preserved c =
    let P : ℕ → Type 0 = λ g. g ≢ c.args.hart → owner_field c.args.word g ≢ c.args.site in
    let here : P c.loop-other.other = elim c.else-other-hart.branch [
      | else-other-hart-via-then-other-hart+else-rest-site w ↦ λ _ e. w.if-rest-site.false (ap (λ (x : ℕ). x % 4096) c.loop-other.invariant.rest ∙ e)
      | else-other-hart-via-else-other-hart w ↦ λ n _. absurd (n w.if-other-hart.false)
    ] in
    record { rest = shifted c.args.word c.loop-other.rest c.loop-other.other c.loop-other.invariant.rest; before = below_more P c.loop-other.other c.loop-other.invariant.before here }
