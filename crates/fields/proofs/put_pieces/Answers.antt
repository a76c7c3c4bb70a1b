-- The next piece has room in the tail, since the whole fits; its raw bytes are the first of the rest.
use Rattle.fields.proofs.Going.{going_room, going_more, going_rest, going_done}
use Rattle.fields.proofs.Laws.{escaped_split}
use Rattle.fields.proofs.put_pieces.Goals as goal

pub put_piece-at-requires : goal.put_piece-at-requires
put_piece-at-requires c =
    let p = c.in-Some.ensures.cases in
    going_room c.loop-piece.invariant _ _ (escaped_split 128 c.loop-piece.rest.now p.0 p.1) c.requires

pub loop-piece-preserved : goal.loop-piece-preserved
loop-piece-preserved c =
    let p = c.in-Some.ensures.cases in
    going_more c.loop-piece.invariant _ _ (escaped_split 128 c.loop-piece.rest.now p.0 p.1) c.put_piece-at.ensures

pub put_eights-requires : goal.put_eights-requires
put_eights-requires c = going_rest c.loop-piece.invariant c.requires

pub returns : goal.returns
returns c = going_done c.loop-piece.invariant c.put_eights.ensures
