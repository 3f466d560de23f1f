use Rattle.lithe_call.proofs.Endings.{line_printed, output_printed, too_long_input}
use Rattle.lithe_call.proofs.laws.printed_bytes_are_served.Goals as goal

pub returns-clause-done : goal.returns-clause-done
returns-clause-done c = λ words status left left' taken taken' writes command form bytes e.
    record { text = writes.text; output = output_printed words left left' status writes.text writes.output command form bytes e; written = writes.written }

pub returns-clause-prefix : goal.returns-clause-prefix
returns-clause-prefix c = λ words left left' taken taken' writes command form bytes e.
    record { status = writes.status; text = writes.text; output = output_printed words left left' writes.status writes.text writes.output command form bytes e; written = writes.written }

pub returns-clause-printed : goal.returns-clause-printed
returns-clause-printed c = λ words status left left' taken taken' faults faults' prints command form bytes e.
    record { text = prints.text; right = line_printed words status left left' prints.text prints.right command form bytes e; prints = prints.prints }

pub returns-clause-too_long : goal.returns-clause-too_long
returns-clause-too_long c = too_long_input
