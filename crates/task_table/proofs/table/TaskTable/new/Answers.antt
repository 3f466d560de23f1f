use Rattle.std.proofs.Common.{alloc_error, All, ap, subst, sym, ◌∙◌, replicate, length, map, ℕ}
use Rattle.task_table.specs.declared.slot.TaskSlot.TheVariants.{Waits}
use Rattle.task_table.specs.Slots.{Ends, list_of}
use Rattle.task_table.proofs.Steps.{opens}
use Rattle.task_table.proofs.table.TaskTable.new.Goals as goal

pub new-requires : goal.new-requires
new-requires g c =
    opens g.T.TaskKind.ready (Ends g.T.TaskKind.gives g.T.TaskKind.fails (g.T.Error.From.from_gives alloc_error)) list_of c.of-key.result c.as_slice.result.now c.in_ok-slots.slots.items (subst (λ v. All g.T.TaskKind.ready v.items) (sym c.of-key.ensures) c.requires)
    (c.as_slice.ensures.value
    ∙ (c.in_ok-words.ensures.items_if_clones_equal (λ y h. h)
    ∙ ap (λ (n : ℕ). replicate {A = ℕ} n 0) (c.len-count.ensures ∙ (c.args.tasks.ok.0 ∙ ap (λ v. length v.items) (sym c.of-key.ensures)))))
    (c.in_ok-slots.ensures ∙ ap (λ v. map (λ task. Waits task) v.items) (sym c.of-key.ensures))
