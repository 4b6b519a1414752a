-- `ruhitapo::ruhitapo_render` meets its contract, which is that of `render::render`. Assumes nothing.
use Rattle.ruhitapo.proofs.ruhitapo_render.Goals as goal

pub returns : goal.returns
returns c = rw (c.into.ensures.0, c.into.ensures.1) c.render.ensures
