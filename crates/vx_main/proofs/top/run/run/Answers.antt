use Rattle.std.proofs.Common.{rules, ◌≡◌, ◌∙◌, Some, true, sym}
use Rattle.vx_main.proofs.StreamsLemmas.{taken_to_the_end}
use Rattle.vx_main.specs.Commands.{reads_tree}
use Rattle.vx_main.proofs.RunsLemmas.{owed, never_unspelled, unspelled, bad, wanting}
use Rattle.vx_main.proofs.top.run.run.Goals as goal

pub returns-in-Ok-answer-clause-read_whole : goal.returns-in-Ok-answer-clause-read_whole
returns-in-Ok-answer-clause-read_whole g c = λ reads done. taken_to_the_end _ _ c.in-Ok.bytes.items c.in-Ok.ensures.all

pub returns-in-Ok-answer-clause-write_fault : goal.returns-in-Ok-answer-clause-write_fault
returns-in-Ok-answer-clause-write_fault g c = λ d named fault.
    let reads : reads_tree (Some c.in-Some.command) ≡ true = search rules in
    let owes = owed _ _ d _ _ _ _ _ _ _ (sym c.read_command.ensures ∙ c.in-Some.is) named reads c.in-Ok.ensures.all c.as_slice.ensures.value
    c.in-Ok-answer.ensures.ok c.as_bytes-in-Ok-answer.ensures.value in
    let told = c.finish-in-Ok-answer.ensures.fault fault in
    (told.0, (_, owes, told.1))

pub returns-in-None-clause-sink_kept : goal.returns-in-None-clause-sink_kept
returns-in-None-clause-sink_kept g c = search rules

pub returns-in-None-clause-unwritten : goal.returns-in-None-clause-unwritten
returns-in-None-clause-unwritten g c = search rules

pub returns-in-Ok-answer-clause-headline : goal.returns-in-Ok-answer-clause-headline
returns-in-Ok-answer-clause-headline g c = λ d named done.
    let reads : reads_tree (Some c.in-Some.command) ≡ true = search rules in
    let owes = owed _ _ d _ _ _ _ _ _ _ (sym c.read_command.ensures ∙ c.in-Some.is) named reads c.in-Ok.ensures.all c.as_slice.ensures.value
    c.in-Ok-answer.ensures.ok c.as_bytes-in-Ok-answer.ensures.value in
    (_, owes, c.finish-in-Ok-answer.ensures.done done)

pub returns-in-Ok-answer-clause-bad_input_comes : goal.returns-in-Ok-answer-clause-bad_input_comes
returns-in-Ok-answer-clause-bad_input_comes g c = λ reads. never_unspelled _ _ _ _ _ _ _ _ c.in-Ok.ensures.all c.as_slice.ensures.value c.in-Ok-answer.ensures.ok

pub returns-clause-bad_input : goal.returns-clause-bad_input
returns-clause-bad_input g c = λ is.
    (search rules, bad c.in-Err.status c.in-Some.command _ _ _ _ _ c.in-Ok.ensures.all c.as_slice.ensures.value c.in-Ok.ensures.fits c.in-Err.ensures.causes is)

pub returns-clause-bad_input_comes : goal.returns-clause-bad_input_comes
returns-clause-bad_input_comes g c = λ reads.
    unspelled c.in-Err.status c.in-Some.command _ _ _ _ _ c.in-Ok.ensures.all c.as_slice.ensures.value c.in-Err.ensures.causes

pub returns-clause-complete : goal.returns-clause-complete
returns-clause-complete g c = λ d named enough _ _.
    let reads : reads_tree (Some c.in-Some.command) ≡ true = search rules in
    wanting _ c.in-Some.command d _ _ _ _ _ c.in-Err.status (sym c.read_command.ensures ∙ c.in-Some.is) named reads c.in-Ok.ensures.all c.as_slice.ensures.value
    c.in-Err.ensures.causes enough
