use Rattle.cap_masters.proofs.Processing.{processed, ended_at, is_there}
use Rattle.cap_masters.proofs.allocation.process.Goals as goal

pub returns-clause-ok : goal.returns-clause-ok
returns-clause-ok g c =
    let put = rw (c.as_slice-2.ensures.value, c.room.ensures.flat) at c.put_asks.ensures in
    let ended = rw (c.as_slice-3.ensures.value) at c.end_named-ignored.ensures.ended in
    let ignored = rw (c.as_slice-3.ensures.value) at c.end_named-ignored.ensures.ignored in
    processed c.args.cluster.now.flat c.put_asks.new.cluster.flat c.end_named-ignored.new.self.flat c.tell.new.self.flat c.args.app c.args.response c.end_named-ignored.result c.args.asks.now c.args.releases.now
    c.requires put ended ignored c.tell.ensures.told

pub returns-clause-told : goal.returns-clause-told
returns-clause-told g c =
    let put = rw (c.as_slice-2.ensures.value, c.room.ensures.flat) at c.put_asks.ensures in
    let ended = rw (c.as_slice-3.ensures.value) at c.end_named-ignored.ensures.ended in
    let at = ended_at c.args.cluster.now.flat c.put_asks.new.cluster.flat c.end_named-ignored.new.self.flat c.args.app c.args.response c.args.asks.now c.args.releases.now c.requires put ended in
    c.tell.ensures.reply (is_there c.end_named-ignored.new.self.flat c.args.app c.args.response at)

pub tell-requires : goal.tell-requires
tell-requires g c = search

pub end_named-ignored-requires : goal.end_named-ignored-requires
end_named-ignored-requires g c = ((search), c.as_slice-3.ensures.few)
