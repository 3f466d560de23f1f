-- An output has one list: variants that are equal have equal lists.
use Rattle.std.specs.Prelude.{ℕ, Vec}
use Rattle.std.specs.declared.alloc.Global.{Global}
use Rattle.task_nested.specs.declared.work.Summary.{Summary}
use Rattle.task_nested.specs.declared.work.Done.{Done}
use Rattle.task_nested.specs.declared.work.Done.TheVariants.{Summaries, Numbers, Total}

-- The summaries of an output; of another output these ones.
abbrev pub summaries_in : Vec Summary Global → Done → Vec Summary Global
summaries_in other (Summaries list) = list
summaries_in other (Numbers list) = other
summaries_in other (Total sum) = other

-- The numbers of an output; of another output these ones.
abbrev pub numbers_in : Vec ℕ Global → Done → Vec ℕ Global
numbers_in other (Summaries list) = other
numbers_in other (Numbers list) = list
numbers_in other (Total sum) = other
