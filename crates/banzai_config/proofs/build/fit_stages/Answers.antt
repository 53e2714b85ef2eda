use Rattle.banzai_config.proofs.Fits.{stage_at}
use Rattle.banzai_config.proofs.build.fit_stages.Goals as goal

pub fit_stage-requires : goal.fit_stage-requires
fit_stage-requires g c = stage_at g.T.AtomTemplate.fits c.args.stages.now c.loop-k.k c.index-stages-k.result c.loop-k-test.true c.index-stages-k.is c.requires
