-- With the numbers in range this is a begun call of the link, flat, or one that is not carried; else it is refused with 7 and the record given.
use Rattle.flat_kind.proofs.Numbers.{kind_known, kind_unknown}
use Rattle.link_record.proofs.Conversions.{link_known, link_unknown}
use Rattle.flat_link.proofs.Links.{begin_known, begin_no_call, begin_unknown}
use Rattle.flat_link.proofs.begin.Goals as goal

pub returns-in-Some-known_kind : goal.returns-in-Some-known_kind
returns-in-Some-known_kind c =
    let a = c.args in
    let l = link_known a.link c.in-Some.ensures in
    let k = kind_known a.call a.out_length c.in-Some-known_kind.ensures in
    begin_known l.0 k.0 l.1 k.1 c.begin.ensures c.flat_started.ensures

pub returns-in-None : goal.returns-in-None
returns-in-None c =
    let a = c.args in
    let l = link_known a.link c.in-Some.ensures in
    begin_no_call l.0 (kind_unknown a.call a.out_length c.in-None.ensures) l.1 c.begin_none.ensures c.flat_started-in-None.ensures

pub returns-in_default : goal.returns-in_default
returns-in_default c = begin_unknown (link_unknown c.args.link c.in_default.ensures) c.flat_begun.ensures
