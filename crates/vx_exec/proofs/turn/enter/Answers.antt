use Rattle.vx_exec.proofs.MovesLemmas.{awaited_present, move_enter, well_node}
use Rattle.vx_exec.proofs.turn.enter.Goals as goal

pub take_slot-requires : goal.take_slot-requires
take_slot-requires g c = awaited_present c.args.slot c.args.node c.requires.awaited

pub returns-clause-ok : goal.returns-clause-ok
returns-clause-ok g c =
    let taken = c.in_ok-parent in
    move_enter g.M.Matcher.fits c.args.frames.now.items c.push.new.self.items c.args.builder c.args.node c.args.slot taken.parent taken.child c.args.target
    c.requires.going taken.ensures.ok (well_node taken.child c.well_formed_tree.ensures.formed) c.requires.direct c.requires.awaited c.requires.target
    c.in_ok-push.ensures.items
