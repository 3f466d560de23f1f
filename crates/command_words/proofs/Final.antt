-- The clauses on words, from the parts.
use Rattle.std.proofs.Common.{◌≡◌, true, false, List, [], ◌∷◌, codes, Option, Some, None, refl, sym, subst, ◌∙◌, inl, inr, Result, Ok, Err, IfOk}
use Rattle.std.specs.Str.{bytes_eq}
use Rattle.clap.specs.Walk.{Text}
use Rattle.clap.specs.Kinds.{Kinds, HasKind, IsAmong}
use Rattle.clap.specs.Faults.{fault_of}
use Rattle.clap.specs.Values.{kind_of}
use Rattle.clap.specs.declared.error.Error.{Error}
use Rattle.clap.specs.declared.error.kind.ErrorKind.TheVariants.{OutOfMemory}
use Rattle.command_words.specs.App.{lithe_app}
use Rattle.command_words.specs.Parsed.{has_dashes}
use Rattle.command_words.specs.Form.{form_of}
use Rattle.command_words.specs.declared.command.Command.{Command}
use Rattle.command_words.proofs.Rules.{neither}
use Rattle.command_words.proofs.Sound.{NoDashes}
use Rattle.command_words.proofs.Forms.{forms_serve}

pub without_dashes : (words : List Text) → has_dashes words ≡ false → NoDashes words
without_dashes [] e = tt
without_dashes (word ∷ more) e = let parts = neither (bytes_eq word (codes "--")) (has_dashes more) e in (parts.0, without_dashes more parts.1)

no_dashes_there : (words : List Text) → NoDashes words → has_dashes words ≡ false
no_dashes_there [] none = refl
no_dashes_there (word ∷ more) none = rw (none.0) (no_dashes_there more none.1)

true_not : true ≡ false → ⊥
true_not e = cc e

none_at : (form : Option Command) → ((command : Command) → form ≡ Some command → ⊥) → None ≡ form
none_at None never = refl
none_at (Some command) never = absurd (never command refl)

pub dashes_no_form : (words : List Text) → has_dashes words ≡ true → None ≡ form_of words
dashes_no_form words e =
    none_at (form_of words) (λ command f. let bad : true ≡ false = sym e ∙ no_dashes_there words (forms_serve words command f).dashes in true_not bad)

pub fault_no_form : (words : List Text) → (fault_of lithe_app words ≡ [] → ⊥) → None ≡ form_of words
fault_no_form words never = none_at (form_of words) (λ command f. never (forms_serve words command f).fault)

never_empty : (error : Error) (kinds : Kinds) → HasKind kinds error → (kind_of error ≡ OutOfMemory → ⊥) → kinds ≡ [] → ⊥
never_empty error kinds (inl memory) other e = other memory
never_empty error kinds (inr among) other e = subst (IsAmong (kind_of error)) e among

-- Words that clap refuses for a cause other than memory are no form.
pub refused_is : {E : Type 0} (words : List Text) (error : Error) (r : Result (Option Command) E) → IfOk r (λ command. command ≡ None) → IfOk r (λ _. kind_of error ≡ OutOfMemory → ⊥)
    → HasKind (fault_of lithe_app words) error → IfOk r (λ command. command ≡ form_of words)
refused_is words error (Ok command) none other has = none ∙ fault_no_form words (never_empty error (fault_of lithe_app words) has other)
refused_is words error (Err why) none other has = tt
