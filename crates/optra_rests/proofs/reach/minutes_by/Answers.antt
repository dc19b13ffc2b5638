use Rattle.std.proofs.Common.{arith, map}
use Rattle.std.proofs.lemmas.List.{length-map}
use Rattle.optra_rests.proofs.LevelLemmas.{level_there}
use Rattle.optra_rests.proofs.reach.minutes_by.Goals as goal

pub level_of-requires : goal.level_of-requires
level_of-requires c =
    let there = level_there (map (λ level. level.items) c.args.levels.now) c.args.count c.args.station.0 c.requires in
    omega (arith, there, length-map c.args.levels.now (λ level. level.items))
