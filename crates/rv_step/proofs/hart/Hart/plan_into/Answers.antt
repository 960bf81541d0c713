use Rattle.elf_image.specs.Images.{loaded_of}
use Rattle.rv_step.proofs.Planned.{planned, extent_held}
use Rattle.rv_step.proofs.hart.Hart.plan_into.Goals as goal

pub returns : goal.returns
returns c =
    let image = loaded_of c.args.image.now in
    let plan = c.fetch_into.new.plan in
    let e = c.fetch_into.ensures in
    let p = planned c.args.self.now image c.args.config.now plan e.fits e.value in
    record {
      value = e.value;
      fits = p.fits;
      kind = p.kind;
      held = extent_held image plan.what p.held;
      aligned = p.aligned;
      csr = p.csr;
      target = p.target;
    }
