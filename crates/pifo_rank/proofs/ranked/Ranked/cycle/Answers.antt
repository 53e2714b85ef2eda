use Rattle.std.proofs.Common.{◌≡◌, ◌&&◌, Bor, List, None, Some, cond, length, ltb, ℕ, ap, ◌∙◌}
use Rattle.std.specs.Option.{option_map}
use Rattle.banzai_config.specs.Action.{Entry}
use Rattle.banzai_machine.specs.Pipe.{leaves_with}
use Rattle.pifo_rank.specs.Queue.{Queue}
use Rattle.pifo_rank.specs.Run.{joined}
use Rattle.pifo_rank.proofs.Standing.{after_steps, shown_is, stands_after, turn_next}
use Rattle.pifo_rank.proofs.ranked.Ranked.cycle.Goals as goal

pub returns-clause-after : goal.returns-clause-after
returns-clause-after g c =
    let hash = g.H.HashUnits.meaning c.args.hash.now in
    let r = c.self.inside in
    let entry : Entry = option_map (λ (fields : Bor (List ℕ)). fields.now) c.args.entering in
    let arrival : Entry = cond c.cycle-left.result (Some c.cycle-left.new.leaving) None in
    let out : arrival ≡ leaves_with hash r.machine.config r.machine.row entry =
    shown_is (leaves_with hash r.machine.config r.machine.row entry) c.cycle-left.result r.left c.cycle-left.new.leaving c.cycle-left.ensures.left in
    rw (← c.self.view_is)
    (after_steps hash (record { machine = r.machine; queue = r.queue; rank = r.rank }) entry c.args.serve c.cycle-left.new.self c.take_in-dropped.new.queue c.serve_one-served.new.queue arrival
    c.cycle-left.ensures.config c.cycle-left.ensures.row c.cycle-left.ensures.touches out c.take_in-dropped.ensures.queue c.serve_one-served.ensures.queue)

pub returns-clause-serves : goal.returns-clause-serves
returns-clause-serves g c =
    let hash = g.H.HashUnits.meaning c.args.hash.now in
    let r = c.self.inside in
    let entry : Entry = option_map (λ (fields : Bor (List ℕ)). fields.now) c.args.entering in
    let arrival : Entry = cond c.cycle-left.result (Some c.cycle-left.new.leaving) None in
    let out : arrival ≡ leaves_with hash r.machine.config r.machine.row entry =
    shown_is (leaves_with hash r.machine.config r.machine.row entry) c.cycle-left.result r.left c.cycle-left.new.leaving c.cycle-left.ensures.left in
    rw (← c.self.view_is)
    (c.serve_one-served.ensures.some
    ∙ ap (λ (q : Queue). c.args.serve && ltb 0 (length q.entries)) c.take_in-dropped.ensures.queue
    ∙ ap (λ (a : Entry). c.args.serve && ltb 0 (length (joined r.queue.room r.rank r.queue.entries a))) out)

pub returns-clause-stands : goal.returns-clause-stands
returns-clause-stands g c entries serving is =
    let entry : Entry = option_map (λ (fields : Bor (List ℕ)). fields.now) c.args.entering in
    stands_after (g.H.HashUnits.meaning c.args.hash.now) entries serving c.args.self.now is entry c.args.serve _ (returns-clause-after g c)

pub returns-clause-turn : goal.returns-clause-turn
returns-clause-turn g c entries serving is =
    let entry : Entry = option_map (λ (fields : Bor (List ℕ)). fields.now) c.args.entering in
    turn_next (g.H.HashUnits.meaning c.args.hash.now) entries serving c.args.self.now is entry c.args.serve
