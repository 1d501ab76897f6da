use Rattle.refusals.proofs.Parts.{past_record}
use Rattle.refusals.proofs.ask_records.Goals as goal

pub returns : goal.returns
returns c = past_record c.args.view.count c.args.processor c.args.cpu.now c.args.memory c.args.random c.in_ok-ask_processor.ensures _ c.in_ok-ask_record.ensures.number c.ask_lengths.ensures
