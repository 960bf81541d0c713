use Rattle.std.proofs.Common.{rules, ◌-◌, ◌∙◌, sym, subst, length, arith}
use Rattle.std.proofs.lemmas.Bool.{ne_eqb}
use Rattle.msg_frames.specs.Taking.{TakenFrom}
use Rattle.msg_frames.proofs.Taking.{TakenFrom-trans, take_filled}
use Rattle.msg_frames.proofs.source.fill.Goals as goal

pub loop-have-preserved : goal.loop-have-preserved
loop-have-preserved g c =
    let r = c.in-Ok.ensures {u = tt} in
    record {
      took = subst (TakenFrom (g.S.Source.left c.args.src.now) (g.S.Source.left c.read.new.self)
          (g.S.Source.log c.args.src.now) (g.S.Source.log c.read.new.self))
          (sym (take_filled c.loop-have.have (length c.loop-have.buf - c.loop-have.have) c.in-Ok.n c.loop-have.buf
          c.read.new.buf c.loop-have.invariant.inside r.bound.0))
          (TakenFrom-trans _ _ _ _ _ _ _ _ c.loop-have.invariant.took
          (record { consumed = r.bytes.0; logged = r.logged }));
      inside = search rules;
      running = λ some. r.end ∙ ne_eqb c.in-Ok.n 0 c.in-Ok.n-test.1;
      count = omega (arith, r.count, c.loop-have.invariant.count);
      opened = r.opened ∙ c.loop-have.invariant.opened;
      beside = r.beside ∙ c.loop-have.invariant.beside;
    }
