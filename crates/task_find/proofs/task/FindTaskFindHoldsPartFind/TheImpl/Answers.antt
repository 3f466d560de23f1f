use Rattle.task_find.proofs.task.FindTaskFindHoldsPartFind.TheImpl.Goals as goal

-- An error that stays the same fails the ranges that it failed.
pub error_of-tells : goal.error_of-tells
error_of-tells g _ _ _ _ _ _ c =
    record { own = λ task given. c.ensures.own task.fold.elements.now task.fold.predicate.now task.low task.high given; memory = c.ensures.memory }
