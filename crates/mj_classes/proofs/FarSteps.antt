-- Walks among places, from each of which one step leads.
use Rattle.std.proofs.Common.{◌≡◌, ℕ, zero, suc, ◌+◌, ◌-◌, ◌<◌, ◌≤◌, Bool, true, false, List, [], ◌∷◌, ◌++◌, length, map, take, get_or, refl, sym, ap, ◌∙◌, subst, arith, ◌⊎◌, inl, inr, cond, ◌||◌, set, replicate, length-set}
use Rattle.std.specs.List.{list_any, IsDistinct, AllByRecursion}
use Rattle.std.proofs.Math.Dec.{eqb}
use Rattle.std.proofs.lemmas.Bool.Decides.{Decides-eqb}
use Rattle.std.proofs.lemmas.Bool.{false≢true, cases_eq}
use Rattle.std.proofs.lemmas.List.{take_more, get_or-set_same, get_or-set_other, length-replicate}
use Rattle.std.proofs.lemmas.Map.Steps.{length-le_from_distinct_below}
use Rattle.mj_classes.specs.Steps.{led, led_far, StayWithin, LeadFar, halted, FlagReturns, AreHalted}

-- ---- many steps

pub led_far-add : (f : ℕ → ℕ) (m n at : ℕ) → led_far f (m + n) at ≡ led_far f n (led_far f m at)
led_far-add f zero n at = let none : 0 + n ≡ n = omega arith in ap (λ (k : ℕ). led_far f k at) none
led_far-add f (suc m) n at =
    let add : suc m + n ≡ suc (m + n) = omega arith in
    ap (λ (k : ℕ). led_far f k at) add ∙ led_far-add f m n (f at)

-- the last step may be told apart
pub led_far-last : (f : ℕ → ℕ) (n at : ℕ) → led_far f (suc n) at ≡ f (led_far f n at)
led_far-last f zero at = refl
led_far-last f (suc n) at = led_far-last f n (f at)

pub far_within : (f : ℕ → ℕ) (many : ℕ) → ((at : ℕ) → at < many → f at < many) → (n at : ℕ) → at < many → led_far f n at < many
far_within f many stay zero at lt = lt
far_within f many stay (suc n) at lt = far_within f many stay n (f at) (stay at lt)

-- steps that lead alike among the places
pub far_alike : (f g : ℕ → ℕ) (many : ℕ) → ((at : ℕ) → at < many → f at < many) → ((at : ℕ) → at < many → g at ≡ f at) → (n at : ℕ) → at < many → led_far g n at ≡ led_far f n at
far_alike f g many stay same zero at lt = refl
far_alike f g many stay same (suc n) at lt =
    ap (λ (k : ℕ). led_far g n k) (same at lt) ∙ far_alike f g many stay same n (f at) (stay at lt)

-- ---- a list of steps taken twice

led-map : (f : ℕ → ℕ) (xs : List ℕ) (at d : ℕ) → at < length xs → get_or (map f xs) at d ≡ f (get_or xs at d)
led-map f [] at d lt = absurd (omega arith)
led-map f (x ∷ xs) zero d lt = refl
led-map f (x ∷ xs) (suc at) d lt = led-map f xs at d (omega arith)

get_or-within : (xs : List ℕ) (at d e : ℕ) → at < length xs → get_or xs at d ≡ get_or xs at e
get_or-within [] at d e lt = absurd (omega arith)
get_or-within (x ∷ xs) zero d e lt = refl
get_or-within (x ∷ xs) (suc at) d e lt = get_or-within xs at d e (omega arith)

pub led-read : (xs : List ℕ) (at d : ℕ) → at < length xs → get_or xs at d ≡ led xs at
led-read xs at d lt = get_or-within xs at d at lt

map-push : (f : ℕ → ℕ) (xs : List ℕ) (x : ℕ) → map f (xs ++ x ∷ []) ≡ map f xs ++ f x ∷ []
map-push f [] x = refl
map-push f (y ∷ ys) x = ap (λ (zs : List ℕ). f y ∷ zs) (map-push f ys x)

length-mapped : (f : ℕ → ℕ) (xs : List ℕ) → length (map f xs) ≡ length xs
length-mapped f [] = refl
length-mapped f (x ∷ xs) = ap suc (length-mapped f xs)

pub led-twice : (xs : List ℕ) (at : ℕ) → at < length xs → led (map (led xs) xs) at ≡ led xs (led xs at)
led-twice xs at lt = led-map (led xs) xs at at lt

pub twice_more : (xs : List ℕ) (n : ℕ) (far after : List ℕ) → n < length xs → far ≡ map (led xs) (take n xs) → after ≡ far ++ (get_or xs (get_or xs n 0) 0) ∷ [] → led xs n < length xs → after ≡ map (led xs) (take (n + 1) xs)
twice_more xs n far after lt kept adds inside =
    let here : get_or xs n 0 ≡ led xs n = led-read xs n 0 lt in
    let there : get_or xs (get_or xs n 0) 0 ≡ led xs (get_or xs n 0) = ap (λ (k : ℕ). get_or xs k 0) here ∙ (led-read xs (led xs n) 0 inside ∙ sym (ap (led xs) here)) in
    adds ∙ (ap (λ (ys : List ℕ). ys ++ (get_or xs (get_or xs n 0) 0) ∷ []) kept
    ∙ (ap (λ (k : ℕ). map (led xs) (take n xs) ++ k ∷ []) there
    ∙ (sym (map-push (led xs) (take n xs) (get_or xs n 0)) ∙ sym (ap (map (led xs)) (take_more xs n 0 lt)))))

-- twice as far
pub far_twice : (step : ℕ → ℕ) (many count : ℕ) (far farther : List ℕ) → ((at : ℕ) → at < many → step at < many) → length far ≡ many → ((at : ℕ) → at < many → led far at ≡ led_far step count at) → farther ≡ map (led far) far
    → (length farther ≡ many) × ((at : ℕ) → at < many → led farther at ≡ led_far step (count + count) at)
far_twice step many count far farther stay all each e = (
  ap length e ∙ (length-mapped (led far) far ∙ all),
  λ at lt.
      let below : led_far step count at < many = far_within step many stay count at lt in
      ap (λ (xs : List ℕ). led xs at) e
      ∙ (led-twice far at (omega arith)
      ∙ (ap (led far) (each at lt)
      ∙ (each (led_far step count at) below ∙ sym (led_far-add step count count at)))),
)

-- ---- places that come back

abbrev walked : (ℕ → ℕ) → ℕ → ℕ → List ℕ
walked f zero j = []
walked f (suc n) j = j ∷ walked f n (f j)

length-walked : (f : ℕ → ℕ) (n j : ℕ) → length (walked f n j) ≡ n
length-walked f zero j = refl
length-walked f (suc n) j = ap suc (length-walked f n (f j))

walked_at : (f : ℕ → ℕ) (n j q : ℕ) → list_any (eqb q) (walked f n j) ≡ true → (i : ℕ) × (i < n) × (led_far f i j ≡ q)
walked_at f zero j q e = absurd cc
walked_at f (suc n) j q e = by (eqb q j) refl e (λ g. walked_at f n (f j) q g)
  where
    by : (b : Bool) → eqb q j ≡ b → (b || list_any (eqb q) (walked f n (f j))) ≡ true → (list_any (eqb q) (walked f n (f j)) ≡ true → (i : ℕ) × (i < n) × (led_far f i (f j) ≡ q))
        → (i : ℕ) × (i < suc n) × (led_far f i j ≡ q)
    by true t e rest = (0, omega arith, sym ((Decides-eqb q j).0 t))
    by false t e rest = let r = rest e in (suc r.0, (let lt = r.1 in omega arith), r.2)

none_of : (j : ℕ) (xs : List ℕ) → list_any (eqb j) xs ≡ false → AllByRecursion (λ y. eqb j y ≡ false) xs
none_of j [] e = tt
none_of j (x ∷ xs) e = by (eqb j x) refl e (λ g. none_of j xs g)
  where
    by : (b : Bool) → eqb j x ≡ b → (b || list_any (eqb j) xs) ≡ false → (list_any (eqb j) xs ≡ false → AllByRecursion (λ y. eqb j y ≡ false) xs) → AllByRecursion (λ y. eqb j y ≡ false) (x ∷ xs)
    by true t e rest = absurd cc
    by false t e rest = (t, rest e)

-- a place that is met again among the first so many
abbrev MeetsAgain : (ℕ → ℕ) → ℕ → ℕ → Type 0
MeetsAgain f n j = (a : ℕ) × (p : ℕ) × (a < n) × (led_far f (suc p) (led_far f a j) ≡ led_far f a j)

meets_or_distinct : (f : ℕ → ℕ) (n j : ℕ) → MeetsAgain f n j ⊎ IsDistinct eqb (walked f n j)
unfolding IsDistinct
meets_or_distinct f zero j = inr tt
meets_or_distinct f (suc n) j = elim (meets_or_distinct f n (f j)) [
  | inl r ↦ inl (suc r.0, r.1, (let lt = r.2 in omega arith), r.3)
  | inr d ↦ by (list_any (eqb j) (walked f n (f j))) refl d
]
  where
    by : (b : Bool) → list_any (eqb j) (walked f n (f j)) ≡ b → IsDistinct eqb (walked f n (f j)) → MeetsAgain f (suc n) j ⊎ IsDistinct eqb (j ∷ walked f n (f j))
    by true t d = let w = walked_at f n (f j) j t in inl (0, w.0, omega arith, w.2)
    by false t d = inr (none_of j (walked f n (f j)) t, d)

-- as many steps as there are places lead to one that comes back
pub far_comes_back : (f : ℕ → ℕ) (many count j : ℕ) → ((at : ℕ) → at < many → f at < many) → many ≤ count → j < many → (n : ℕ) × (led_far f (suc n) (led_far f count j) ≡ led_far f count j)
far_comes_back f many count j stay le lt = elim (meets_or_distinct f (suc count) j) [
  | inl r ↦
      let before = r.2 in
      let d : ℕ = count - r.0 in
      let sum : count ≡ r.0 + d = omega arith in
      let x : ℕ = led_far f r.0 j in
      let here : led_far f count j ≡ led_far f d x = ap (λ (k : ℕ). led_far f k j) sum ∙ led_far-add f r.0 d j in
      let swap : d + suc r.1 ≡ suc r.1 + d = omega arith in (
        r.1,
        ap (led_far f (suc r.1)) here
            ∙ (sym (led_far-add f d (suc r.1) x) ∙ (ap (λ (k : ℕ). led_far f k x) swap ∙ (led_far-add f (suc r.1) d x ∙ (ap (led_far f d) r.3 ∙ sym here)))),
      )
  | inr d ↦
      let few = length-le_from_distinct_below (walked f (suc count) j) many d (λ q t. let w = walked_at f (suc count) j q t in subst (λ (k : ℕ). k < many) w.2 (far_within f many stay w.0 j lt)) in
      absurd (omega (arith, few, length-walked f (suc count) j))
]

abbrev rounds : ℕ → ℕ → ℕ
rounds s zero = 0
rounds s (suc r) = s + rounds s r

rounds_long : (p r : ℕ) → r ≤ rounds (suc p) r
rounds_long p zero = omega arith
rounds_long p (suc r) = let rest = rounds_long p r in omega arith

rounds_back : (f : ℕ → ℕ) (p at r : ℕ) → led_far f (suc p) at ≡ at → led_far f (rounds (suc p) r) at ≡ at
rounds_back f p at zero e = refl
rounds_back f p at (suc r) e = led_far-add f (suc p) (rounds (suc p) r) at ∙ (ap (led_far f (rounds (suc p) r)) e ∙ rounds_back f p at r e)

-- and one that comes back is led to by so many
pub led_from : (f : ℕ → ℕ) (many count p at : ℕ) → ((at : ℕ) → at < many → f at < many) → at < many → led_far f (suc p) at ≡ at → (j : ℕ) × (j < many) × (led_far f count j ≡ at)
led_from f many count p at stay lt e =
    let total : ℕ = rounds (suc p) count in
    let long : count ≤ total = rounds_long p count in
    let sum : total - count + count ≡ total = omega arith in (
      led_far f (total - count) at,
      far_within f many stay (total - count) at lt,
      sym (led_far-add f (total - count) count at) ∙ (ap (λ (k : ℕ). led_far f k at) sum ∙ rounds_back f p at count e),
    )

-- ---- lists of far places

pub far_two : (steps far : List ℕ) → StayWithin steps → far ≡ map (led steps) steps → (length far ≡ length steps) × ((at : ℕ) → at < length steps → led far at ≡ led_far (led steps) 2 at)
far_two steps far stay e = (
  ap length e ∙ length-mapped (led steps) steps,
  λ at lt. ap (λ (xs : List ℕ). led xs at) e ∙ led-twice steps at lt,
)

pub far_stays : (steps : List ℕ) (count : ℕ) (far : List ℕ) → StayWithin steps → length far ≡ length steps → ((at : ℕ) → at < length steps → led far at ≡ led_far (led steps) count at) → StayWithin far
far_stays steps count far stay all each at lt =
    let below : at < length steps = omega arith in
    let inside : led_far (led steps) count at < length steps = far_within (led steps) (length steps) stay count at below in
    let same = each at below in
    omega (arith, inside, same, all)

-- steps that lead nowhere else when they are taken twice lead there however often they are taken
pub far_still : (step : ℕ → ℕ) (many count : ℕ) (far : List ℕ) → ((at : ℕ) → at < many → step at < many) → length far ≡ many → 0 < count → ((at : ℕ) → at < many → led far at ≡ led_far step count at) → far ≡ map (led far) far → LeadFar step many far
far_still step many count far stay all some each still = by count some each
  where
    again : (n : ℕ) → ((at : ℕ) → at < many → led far at ≡ led_far step n at) → (k : ℕ) (at : ℕ) → at < many → led far at ≡ led_far step (rounds n (suc k)) at
    again n each zero at lt = let once : rounds n 1 ≡ n = omega arith in each at lt ∙ sym (ap (λ (m : ℕ). led_far step m at) once)
    again n each (suc k) at lt =
        let below : led_far step n at < many = far_within step many stay n at lt in
        ap (λ (xs : List ℕ). led xs at) still
        ∙ (led-twice far at (omega arith)
        ∙ (ap (led far) (each at lt)
        ∙ (again n each k (led_far step n at) below ∙ sym (led_far-add step n (rounds n (suc k)) at))))

    by : (n : ℕ) → 0 < n → ((at : ℕ) → at < many → led far at ≡ led_far step n at) → LeadFar step many far
    by zero lt each = absurd (omega arith)
    by (suc p) lt each = record {
      count = rounds (suc p) (suc many);
      enough = let long = rounds_long p (suc many) in omega arith;
      all = all;
      each = again (suc p) each many;
    }

-- ---- flags of the places that come back

get_or-no_flags : (many at : ℕ) → get_or (replicate many false) at false ≡ false
get_or-no_flags zero at = refl
get_or-no_flags (suc many) zero = refl
get_or-no_flags (suc many) (suc at) = get_or-no_flags many at

-- the flags of so many of the places
pub record FlagSome (far : List ℕ) (flags : List Bool) (n : ℕ) : Type 0 where
  pub all : length flags ≡ length far
  pub only : (at : ℕ) → get_or flags at false ≡ true → (j : ℕ) × (j < n) × (led far j ≡ at)
  pub each : (j : ℕ) → j < n → get_or flags (led far j) false ≡ true

pub flag_none : (far : List ℕ) (flags : List Bool) (many : ℕ) → flags ≡ replicate many false → length far ≡ many → FlagSome far flags 0
flag_none far flags many e all = record {
  all = ap length e ∙ (length-replicate many false ∙ sym all);
  only = λ at t. absurd (false≢true (sym (ap (λ (xs : List Bool). get_or xs at false) e ∙ get_or-no_flags many at) ∙ t));
  each = λ j lt. absurd (omega arith);
}

pub flag_more : (far : List ℕ) (flags after : List Bool) (n at : ℕ) → FlagSome far flags n → n < length far → at ≡ led far n → at < length far → after ≡ set flags at true → FlagSome far after (n + 1)
flag_more far flags after n at w lt is below e = record {
  all = ap length e ∙ (length-set flags at true ∙ w.all);
  only = λ k t. elim (cases_eq k at) [
    | inl same ↦ (n, omega arith, sym is ∙ sym same)
    | inr apart ↦
        let old = w.only k (sym (get_or-set_other flags at k true false apart) ∙ (sym (ap (λ (xs : List Bool). get_or xs k false) e) ∙ t)) in
        (old.0, (let less = old.1 in omega arith), old.2)
  ];
  each = λ j less. ap (λ (xs : List Bool). get_or xs (led far j) false) e ∙ elim (cases_eq (led far j) at) [
    | inl same ↦ ap (λ (k : ℕ). get_or (set flags at true) k false) same ∙ get_or-set_same flags at true false (let all = w.all in omega arith)
    | inr apart ↦ get_or-set_other flags at (led far j) true false apart ∙ w.each j (earlier j less apart)
  ];
}
  where
    earlier : (j : ℕ) → j < n + 1 → (led far j ≡ at → ⊥) → j < n
    earlier j less apart = elim (cases_eq j n) [ inl same ↦ absurd (apart (ap (led far) same ∙ sym is)) | inr other ↦ omega arith ]

pub flags_tell : (steps far : List ℕ) (flags : List Bool) (n : ℕ) → StayWithin steps → LeadFar (led steps) (length steps) far → FlagSome far flags n → length far ≤ n → n ≤ length far → FlagReturns steps flags
flags_tell steps far flags n stay f w le ge = record {
  all = w.all ∙ f.all;
  each = λ at lt. (
    λ t.
        let j = w.only at t in
        let all = f.all in
        let less = j.1 in
        let below : j.0 < length steps = omega arith in
        let to : led_far (led steps) f.count j.0 ≡ at = sym (f.each j.0 below) ∙ j.2 in
        let back = far_comes_back (led steps) (length steps) f.count j.0 stay f.enough below in
        (back.0, subst (λ (k : ℕ). led_far (led steps) (suc back.0) k ≡ k) to back.1),
    λ back.
        let j = led_from (led steps) (length steps) f.count back.0 at stay lt back.1 in
        let all = f.all in
        let less = j.1 in
        subst (λ (k : ℕ). get_or flags k false ≡ true) (f.each j.0 j.1 ∙ j.2) (w.each j.0 (omega arith)),
  );
}

-- ---- halted walks

pub halted_within : (flags : List Bool) (steps : List ℕ) → StayWithin steps → (at : ℕ) → at < length steps → halted flags steps at < length steps
halted_within flags steps stay at lt = by (get_or flags at false)
  where
    by : (b : Bool) → cond b at (led steps at) < length steps
    by true = lt
    by false = stay at lt

pub halted_stay : (flags : List Bool) (steps halts : List ℕ) → StayWithin steps → AreHalted flags steps halts → StayWithin halts
halted_stay flags steps halts stay h at lt =
    let all = h.all in
    let below : at < length steps = omega arith in
    let inside = halted_within flags steps stay at below in
    let same = h.each at below in
    omega (arith, inside, same, all)

-- the far places of the halted steps
pub halted_far : (flags : List Bool) (steps halts ends : List ℕ) → StayWithin steps → AreHalted flags steps halts → LeadFar (led halts) (length halts) ends → LeadFar (halted flags steps) (length steps) ends
halted_far flags steps halts ends stay h f = record {
  count = f.count;
  enough = let all = h.all in let enough = f.enough in omega arith;
  all = f.all ∙ h.all;
  each = λ at lt.
      let all = h.all in
      f.each at (omega arith) ∙ far_alike (halted flags steps) (led halts) (length steps) (halted_within flags steps stay) h.each f.count at lt;
}

-- each far place is one of the places
pub far_inside : (steps far : List ℕ) (at : ℕ) → StayWithin steps → LeadFar (led steps) (length steps) far → at < length far → led far at < length far
far_inside steps far at stay f lt = far_stays steps f.count far stay f.all f.each at lt
