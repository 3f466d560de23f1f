-- The commands as clap sees them.
use Rattle.std.specs.Prelude.{ℕ, List, [], ◌∷◌, map, Some, codes, true, false}
use Rattle.clap.specs.Words.{App, Shape, Rule}
use Rattle.clap.specs.Simple.{new_rule, new_shape}
use Rattle.clap.specs.declared.builder.action.ArgAction.TheVariants.{Set}
use Rattle.command_words.specs.Form.{harts_alone, harts_commands, made_from}

-- An option that takes a value, and that the command needs.
abbrev pub needed : List ℕ → Rule
needed name = record (new_rule name) { long = Some name; action = Some Set; required = true }

-- A command with these options.
abbrev pub command_with : List ℕ → List (List ℕ) → Shape
command_with name names = record (new_shape name) {
  rules = map needed names;
  disable_help_flag = true;
}

-- The program without its commands, a command with no option, and the command with three.
abbrev pub program_shape : Shape
program_shape = record (new_shape (codes "lithe_run")) {
  no_binary_name = true;
  disable_help_flag = true;
  disable_help_subcommand = true;
  subcommand_required = true;
}

-- The program without its commands.
abbrev pub program_app : App
program_app = record { top = program_shape; subs = [] }

-- A command without options.
abbrev pub bare_app : List ℕ → App
bare_app name = record { top = command_with name []; subs = [] }

-- The command `make`.
abbrev pub make_app : App
make_app = record { top = command_with (codes "make") made_from; subs = [] }

-- The program with its commands.
abbrev pub lithe_app : App
lithe_app = record {
  top = record program_shape { is_leaf = false };
  subs = command_with (codes "solo") [] ∷ command_with (codes "make") made_from
      ∷ map (λ known. command_with known.0 harts_alone) harts_commands;
}
