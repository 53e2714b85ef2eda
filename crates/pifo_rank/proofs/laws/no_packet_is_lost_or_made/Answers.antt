use Rattle.pifo_rank.proofs.Lost.{none_lost}
use Rattle.pifo_rank.proofs.laws.no_packet_is_lost_or_made.Goals as goal

pub returns : goal.returns
returns c room rank held arrivals serving size = none_lost room rank held arrivals serving size
