-- A byte of the reply, or any other: both promise a step.
use Rattle.flat_link.proofs.step.Goals as goal

pub step_reply-requires : goal.step_reply-requires
step_reply-requires c = c.is_reply_byte.ensures c.if-is_reply_byte.true
