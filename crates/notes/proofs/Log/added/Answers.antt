-- The counts have room for each note and its data.
use lib.ListN.{length}
use Rattle.notes.proofs.Laws.{count_facts, block_counts, load_counts}
use Rattle.notes.proofs.Log.added.Goals as goal

pub note-requires : goal.note-requires
note-requires c =
    (count_facts c.args.self c.args.answer (length c.args.own.now) c.requires).0

pub note-requires-in-EscapeState : goal.note-requires-in-EscapeState
note-requires-in-EscapeState c =
    (count_facts c.args.self c.args.answer (length c.args.own.now) c.requires).0

pub note-requires-in-Event : goal.note-requires-in-Event
note-requires-in-Event c =
    (count_facts c.args.self c.args.answer (length c.args.own.now) c.requires).0

pub note-requires-in-Address : goal.note-requires-in-Address
note-requires-in-Address c =
    (count_facts c.args.self c.args.answer (length c.args.own.now) c.requires).0

pub block-requires : goal.block-requires
block-requires c =
    block_counts c.args.self (length c.args.own.now) c.requires c.in-Block.is

pub loaded-requires : goal.loaded-requires
loaded-requires c =
    load_counts c.args.self (length c.args.own.now) c.requires c.in-Loaded.is

pub note-requires-in-Ended : goal.note-requires-in-Ended
note-requires-in-Ended c =
    (count_facts c.args.self c.args.answer (length c.args.own.now) c.requires).0
