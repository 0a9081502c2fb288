use Rattle.std.proofs.Common.{inl, inr, sym, subst, refl, ◌∙◌, None, List}
use Rattle.std.specs.Arc.{arc_value}
use Rattle.recorder.specs.Backed.{ReadValue}
use Rattle.recorder.specs.Recording.{KeepsReads}
use Rattle.recorder.proofs.Recorded.{keeps_after, keeps_last}
use Rattle.recorder.proofs.readers.recorder.first_answer.Goals as goal

pub returns-in-Ok-keep-clause-keeps : goal.returns-in-Ok-keep-clause-keeps
returns-in-Ok-keep-clause-keeps g c =
    let before = keeps_after (g.D.Reader.answers c.args.inner.now) (g.D.Reader.answers c.read.new.self) (g.D.Reader.faults c.args.inner.now) (g.D.Reader.faults c.read.new.self) (λ q v a. g.met.D.Reader.kept c.args.inner.now c.read.new.self q v c.in-Ok.ensures.follows a) c.args.reads.now c.requires.keeps in
    let after = keeps_last (g.D.Reader.answers c.read.new.self) (g.D.Reader.faults c.read.new.self) c.args.reads.now c.args.key.now (arc_value c.in-Ok.answer) before c.in-Ok.ensures.answer c.in-Ok-keep.ensures.kept c.in-Ok.ensures.kind c.requires.unread in
    subst (λ (told : List ReadValue). KeepsReads (g.D.Reader.answers c.read.new.self) (g.D.Reader.faults c.read.new.self) told None) (sym c.in-Ok-keep.ensures.ok) after

pub returns-in-Err-keep-clause-keeps : goal.returns-in-Err-keep-clause-keeps
returns-in-Err-keep-clause-keeps g c =
    let before = keeps_after (g.D.Reader.answers c.args.inner.now) (g.D.Reader.answers c.read.new.self) (g.D.Reader.faults c.args.inner.now) (g.D.Reader.faults c.read.new.self) (λ q v a. g.met.D.Reader.kept c.args.inner.now c.read.new.self q v c.in-Ok.ensures.follows a) c.args.reads.now c.requires.keeps in
    subst (λ (told : List ReadValue). KeepsReads (g.D.Reader.answers c.read.new.self) (g.D.Reader.faults c.read.new.self) told None) (sym c.in-Err-keep.ensures.err) before

pub returns-in-Err-clause-keeps : goal.returns-in-Err-clause-keeps
returns-in-Err-clause-keeps g c =
    keeps_after (g.D.Reader.answers c.args.inner.now) (g.D.Reader.answers c.read.new.self) (g.D.Reader.faults c.args.inner.now) (g.D.Reader.faults c.read.new.self) (λ q v a. g.met.D.Reader.kept c.args.inner.now c.read.new.self q v c.in-Err.ensures.follows a) c.args.reads.now c.requires.keeps

pub returns-in-Err-clause-err : goal.returns-in-Err-clause-err
returns-in-Err-clause-err g c = (
  refl,
  elim c.refusal_of.ensures [
    | inl m ↦ inl m
    | inr r ↦ inr (r.0, (λ e. r.2 (sym r.1 ∙ e)), subst (g.D.Reader.faults c.read.new.self c.args.key.now) (sym r.1) c.in-Err.ensures.fault)
  ],
)
