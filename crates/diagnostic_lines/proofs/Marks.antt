-- The mark of an excerpt stands below its place.
use Rattle.std.proofs.Common.{◌≡◌, ◌∙◌, ℕ, ◌+◌, Bool, true, false, List, ◌∷◌, ◌++◌, length, take, map, sym, ap, subst}
use Rattle.std.specs.Prelude.{replicate, codes, if◌then◌else◌, nat_lt, nat_le}
use Rattle.std.proofs.lemmas.List.{append_assoc}
use Rattle.diagnostic_lines.specs.Excerpts.{in_front, shown, cut_mark, left_part, right_part, marked, marked_sides, excerpt, IsMarkedBelow, MarkLaw}

-- The four spaces in front of both rows count for the mark.
two_rows : (row spaces end : List ℕ) → ((row ++ codes "\n    ") ++ spaces) ++ end ≡ ((row ++ codes "\n") ++ (codes "    " ++ spaces)) ++ end
two_rows row spaces end = ap (λ (ys : List ℕ). ys ++ end) (append_assoc row (codes "\n    ") spaces ∙ sym (append_assoc row (codes "\n") (codes "    " ++ spaces)))

marked_below : (left : List ℕ) (b : ℕ) (behind : List ℕ) → IsMarkedBelow b (marked left (shown b ∷ behind))
marked_below left b behind = record {
  front = codes "    " ++ left;
  behind = behind;
  rows = two_rows ((codes "    " ++ left) ++ shown b ∷ behind) (replicate (length left) 32) (codes "^\n");
}

sides_marked : (front : List ℕ) (b : ℕ) (rest : List ℕ) → IsMarkedBelow b (marked_sides front (b ∷ rest))
sides_marked front b rest = by (nat_le (length front + length (b ∷ rest)) 200)
  where
    by : (is_short : Bool) → IsMarkedBelow b (marked (left_part (if is_short then 200 else 100) front) (right_part (if is_short then 200 else 100) (b ∷ rest)))
    by true = marked_below (left_part 200 front) b (map shown (take 199 rest) ++ cut_mark (nat_lt 200 (length (b ∷ rest))))
    by false = marked_below (left_part 100 front) b (map shown (take 99 rest) ++ cut_mark (nat_lt 100 (length (b ∷ rest))))

pub mark_law : MarkLaw
unfolding excerpt
mark_law place b rest e = subst (λ (ys : List ℕ). IsMarkedBelow b (marked_sides (in_front place) ys)) (sym e) (sides_marked (in_front place) b rest)
