use Rattle.std.proofs.Common.{◌≡◌, List, ◌∷◌, [], ◌++◌, length, map, string_bytes, sym, ap, subst, ◌∙◌, arith, append_assoc}
use Rattle.std.proofs.lemmas.List.{map-append, nil_from_length}
use Rattle.std.specs.Vec.Iter.{into_iter_items}
use Rattle.program_run.specs.Audits.{TookAll}
use Rattle.program_run.proofs.Progress.{stopped_behind, took_more}
use Rattle.program_run.proofs.Taking.{named_at, all_of}
use Rattle.program_run.proofs.subcommands.auditing.take_files.Goals as goal

pub loop-name-preserved : goal.loop-name-preserved
loop-name-preserved g c =
    let at = c.loop-name in
    let name = c.in-Some.name in
    let steps : into_iter_items at.name-iterator ≡ name ∷ into_iter_items c.next.new.self = c.in-Some.ensures.steps.0 in
    let was = at.invariant.took in
    let more = c.in-Ok.ensures.taken was.front.files was.front.taken in
    record {
      took = took_more g.R.File.Read.remaining string_bytes c.args.progress (g.E.Write.contents c.args.err.now) (g.E.Write.contents at.err) (g.E.Write.contents c.take_named.new.err)
          at.yielded name at.auditor c.take_named.new.auditor was more;
      left = append_assoc at.yielded (name ∷ []) (into_iter_items c.next.new.self) ∙ (ap (λ rest. at.yielded ++ rest) (sym steps) ∙ at.invariant.left);
      count =
          let was_count = at.invariant.count in
          let gone = c.in-Some.ensures.steps.1 in
          let short = ap length steps in
          omega arith;
    }

pub returns-in-Err-clause-failed : goal.returns-in-Err-clause-failed
returns-in-Err-clause-failed g c =
    let at = c.loop-name in
    let name = c.in-Some.name in
    let steps : into_iter_items at.name-iterator ≡ name ∷ into_iter_items c.next.new.self = c.in-Some.ensures.steps.0 in
    let left : at.yielded ++ name ∷ into_iter_items c.next.new.self ≡ c.args.names.items = ap (λ rest. at.yielded ++ rest) (sym steps) ∙ at.invariant.left in
    let was = at.invariant.took in
    let start = g.E.Write.contents c.args.err.now in
    let now = g.E.Write.contents at.err in
    let names = map string_bytes c.args.names.items in
    let all : map string_bytes at.yielded ++ map string_bytes (name ∷ into_iter_items c.next.new.self) ≡ names =
    sym (map-append string_bytes at.yielded (name ∷ into_iter_items c.next.new.self)) ∙ ap (map string_bytes) left in
    stopped_behind g.R.File.Read.remaining names c.args.progress start now (g.E.Write.contents c.take_named.new.err)
    (map string_bytes at.yielded) (map string_bytes (name ∷ into_iter_items c.next.new.self)) all at.auditor was (string_bytes name)
    (named_at string_bytes at.yielded name (into_iter_items c.next.new.self) c.args.names.items (length was.front.files) was.many left)
    c.in-Err.failure (c.in-Err.ensures.failed was.front.files was.front.taken)

pub returns-clause-taken : goal.returns-clause-taken
returns-clause-taken g c =
    let at = c.loop-name in
    let none = c.in-None.ensures.steps in
    let empty : into_iter_items at.name-iterator ≡ [] = nil_from_length _ (sym at.invariant.count ∙ none.0) in
    subst (λ (names : List _). TookAll g.R.File.Read.remaining (map string_bytes names) c.args.progress (g.E.Write.contents c.args.err.now) (g.E.Write.contents at.err) at.auditor) (all_of at.yielded (into_iter_items at.name-iterator) c.args.names.items empty at.invariant.left) at.invariant.took
