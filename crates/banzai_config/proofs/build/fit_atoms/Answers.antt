use Rattle.banzai_config.proofs.Fits.{atom_at}
use Rattle.banzai_config.proofs.build.fit_atoms.Goals as goal

pub fit_atom-requires : goal.fit_atom-requires
fit_atom-requires g c = atom_at g.T.AtomTemplate.fits c.args.atoms.now c.loop-k.k c.index-atoms-k.result c.loop-k-test.true c.index-atoms-k.is c.requires
