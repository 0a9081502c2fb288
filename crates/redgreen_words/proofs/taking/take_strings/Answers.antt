use Rattle.std.proofs.Common.{◌≡◌, List, ℕ, ◌++◌, ◌∷◌, [], length, map, ap, sym, subst, ◌∙◌, arith}
use Rattle.std.specs.List.{concat}
use Rattle.redgreen_words.specs.Feeding.{Given}
use Rattle.redgreen_words.proofs.Takings.{given_then, strings_stop, strings_more, concat_more}
use Rattle.redgreen_words.proofs.taking.take_strings.Goals as goal

pub returns-in-Err-clause-value : goal.returns-in-Err-clause-value
returns-in-Err-clause-value g c = strings_stop c.loop-k.list.items c.args.lengths.now c.loop-k.k c.in-Err.fault c.loop-k.invariant.sizes (omega arith) c.loop-k.invariant.given c.in-Err.ensures.value

pub loop-k-preserved : goal.loop-k-preserved
loop-k-preserved g c =
    let more : c.push.new.self.items ≡ c.loop-k.list.items ++ c.in-Ok.string ∷ [] = c.in_ok-push-in-Ok.ensures.items in
    let joined : concat c.push.new.self.items ≡ concat c.loop-k.list.items ++ c.in-Ok.string = ap concat more ∙ concat_more c.loop-k.list.items c.in-Ok.string in
    record {
      given = subst (Given (g.F.Feed.holds c.args.feed.now) (g.F.Feed.holds c.take_string.new.feed)) (sym joined) (given_then (concat c.loop-k.list.items) c.in-Ok.string c.loop-k.invariant.given c.in-Ok.ensures.value.1);
      sizes = ap (λ (xs : List (List ℕ)). map length xs) more ∙ strings_more c.loop-k.list.items c.args.lengths.now c.loop-k.k c.in-Ok.string c.loop-k.invariant.sizes (omega arith) c.in-Ok.ensures.value.0;
      failed = c.in-Ok.ensures.counted ∙ c.loop-k.invariant.failed;
    }
