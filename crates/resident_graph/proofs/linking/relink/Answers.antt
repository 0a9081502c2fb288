use Rattle.std.proofs.Common.{ℕ, ◌<◌, List, length, Contains, Vec, sym, ap, ◌∙◌, subst, length-set}
use Rattle.std.specs.declared.alloc.Global.{Global}
use Rattle.resident_graph.proofs.Lists.{items_at, list_here, list_there, on_err}
use Rattle.resident_graph.proofs.linking.relink.Goals as goal

pub returns-then-are_same-clause-ok : goal.returns-then-are_same-clause-ok
returns-then-are_same-clause-ok c = (
  items_at c.args.edges.now.items c.args.at _ c.requires.within c.index.ensures ∙ (sym c.as_slice.ensures.value ∙ (c.are_same.ensures.0 c.if-are_same.true ∙ c.as_slice-2.ensures.value)),
  c.requires.linked,
)

pub returns-in_err-link-clause-others : goal.returns-in_err-link-clause-others
returns-in_err-link-clause-others c = λ i ne. list_there c.args.edges.now.items c.args.at c.replace-old.new.dest i ne

pub returns-in_err-link-clause-err : goal.returns-in_err-link-clause-err
returns-in_err-link-clause-err c =
    on_err c.from_residual.result
    (list_here c.args.edges.now.items c.args.at c.replace-old.new.dest c.requires.within ∙ (ap (λ (v : Vec ℕ Global). v.items) c.replace-old.ensures.after ∙ c.new.ensures.items))

pub returns-clause-others : goal.returns-clause-others
returns-clause-others c = λ i ne. list_there _ c.args.at c.args.new i ne ∙ list_there c.args.edges.now.items c.args.at c.replace-old.new.dest i ne

pub returns-clause-ok : goal.returns-clause-ok
returns-clause-ok c =
    let within : c.args.at < length _ = subst (λ (n : ℕ). c.args.at < n) (sym (length-set c.args.edges.now.items c.args.at c.replace-old.new.dest)) c.requires.within in
    let here = list_here _ c.args.at c.args.new within in (
      here,
      λ e lt has. c.in_ok-link.ensures.ok e
          (subst (λ (xs : List ℕ). Contains xs e) (here ∙ sym c.as_slice-4.ensures.value) has)
          (subst (λ (n : ℕ). e < n) c.in_ok-link.ensures.len lt),
    )
