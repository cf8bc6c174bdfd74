-- Each of the nineteen plans is sound: by the law of the table a claim of a line says what the rule says of the line's parts. A new name is put
-- at the element that `some`, `all` or `sub` gives.
-- Assumes nothing.
use Prim.Native.Nat.{ℕ, ◌<◌}
use mathlib.Core.Bool.{Bool, true, false, not, cond, false≢true, true≢false}
use mathlib.Core.List.{List, [], ◌∷◌}
use mathlib.Core.Logic.{inl, inr, ⊎_elim}
use mathlib.Core.Path.{◌≡◌, refl, sym, ap, ap₂, ◌∙◌}
use borrow.Author.Tests.{not-true, not-false, eq-eqb}
use Rattle.alc.specs.Lists.{All, elem}
use Rattle.alc.specs.Meaning.{Interp, Placed, member}
use Rattle.alc.specs.Table.{Table, Kind, is_a, shape, tree_of}
use Rattle.alc.specs.Claims.{is, sub, link, Sided, left, right, truth}
use Rattle.alc.specs.Rules
use Rattle.alc.specs.Rules.{Step, plan, first, second, role_of, inner}
use Rattle.alc.specs.Goals.{avoids}
use Rattle.alc.proofs.Logic.{both_true, one_false, one_true, both_false, if_true, if_false, clash, some_true, some_false, every_true, every_false}
use Rattle.alc.proofs.Trees.{WellFormed, law_at}
use Rattle.alc.proofs.Sound.{Bad, moved, Refutes, Sound}

-- the placing, with name b at element e
abbrev put : (ℕ → ℕ) → ℕ → ℕ → ℕ → ℕ
put π b e a = cond (elem a (b ∷ [])) e (π a)

cond_below : (t : Bool) (x y n : ℕ) → x < n → y < n → cond t x y < n
cond_below true x y n h k = h
cond_below false x y n h k = k

put_new : (π : ℕ → ℕ) (b e : ℕ) → put π b e b ≡ e
put_new π b e = rw (eq-eqb b b refl)

put_old : (π : ℕ → ℕ) (b e a : ℕ) → elem a (b ∷ []) ≡ false → put π b e a ≡ π a
put_old π b e a h = rw h

module _ (T : Table) (wf : WellFormed T) where
  -- no name moves
  stay : (I : Interp) → Placed I → (l : List Sided) → All (Bad T I) l → Refutes T I [] l
  stay I h l b = record { place = I.place; placed = h; agrees = λ a e. refl; bad = b }

  -- the new name is put at an element
  abbrev with : Interp → ℕ → ℕ → Interp
  with I b e = moved I (put I.place b e)

  move : (I : Interp) → Placed I → (b e : ℕ) → e < I.world.size → (l : List Sided) → All (Bad T (with I b e)) l → Refutes T I (b ∷ []) l
  move I p b e h l k =
      record { place = put I.place b e; placed = λ a. cond_below (elem a (b ∷ [])) e (I.place a) I.world.size h (p a); agrees = put_old I.place b e; bad = k }

  -- what a claim of a line of a known kind says of the line's parts
  value : (I : Interp) (a i : ℕ) (k : Kind) → is_a T i k ≡ true → truth T I (is a i) ≡ member I.world (shape k (first T i) (second T i) (tree_of T)) (I.place a)
  unfolding truth
  value I a i k e = ap (λ t. member I.world t (I.place a)) (law_at T wf i k e)

  yes_left : (I : Interp) (a i : ℕ) (k : Kind) → is_a T i k ≡ true → Bad T I (left (is a i)) → member I.world (shape k (first T i) (second T i) (tree_of T)) (I.place a) ≡ true
  yes_left I a i k e b = sym (value I a i k e) ∙ not-false (truth T I (is a i)) b

  no_right : (I : Interp) (a i : ℕ) (k : Kind) → is_a T i k ≡ true → Bad T I (right (is a i)) → member I.world (shape k (first T i) (second T i) (tree_of T)) (I.place a) ≡ false
  no_right I a i k e b = sym (value I a i k e) ∙ b

  abbrev at : Interp → ℕ → ℕ → Bool
  at I a i = truth T I (is a i)

  -- a claim of the new name, a link to it
  new_is : (I : Interp) (b e i : ℕ) → truth T (with I b e) (is b i) ≡ member I.world (tree_of T i) e
  unfolding truth
  new_is I b e i = ap (member I.world (tree_of T i)) (put_new I.place b e)

  new_link : (I : Interp) (b e r a i : ℕ) → avoids (b ∷ []) (left (is a i)) ≡ true → truth T (with I b e) (link r a b) ≡ I.world.roles r (I.place a) e
  unfolding truth
  new_link I b e r a i n = ap₂ (I.world.roles r) (put_old I.place b e a (not-true (elem a (b ∷ [])) (both_true (not (elem a (b ∷ []))) true n).0)) (put_new I.place b e)

  pub plan_sound : (s : Step) → Sound T (plan T s)
  unfolding plan truth member
  plan_sound (Rules.id a i) I p k u n b = clash (at I a i) (not-false (at I a i) b.0) b.1.0
  plan_sound (Rules.id_sub i j) I p k u n b = let c = truth T I (sub i j) in clash c (not-false c b.0) b.1.0
  plan_sound (Rules.id_link r a c) I p k u n b = let d = truth T I (link r a c) in clash d (not-false d b.0) b.1.0
  plan_sound (Rules.bot_l a i) I p k u n b = false≢true (yes_left I a i Kind.bot k b.0)
  plan_sound (Rules.top_r a i) I p k u n b = true≢false (no_right I a i Kind.top k b.0)
  plan_sound (Rules.top_l a i) I p k u n b = inl (stay I p _ (ap not (value I a i Kind.top k), tt))
  plan_sound (Rules.bot_r a i) I p k u n b = inl (stay I p _ (value I a i Kind.bot k, tt))
  plan_sound (Rules.not_l a i) I p k u n b = inl (stay I p _ (not-true (at I a (first T i)) (yes_left I a i Kind.not k b.0), tt))
  plan_sound (Rules.not_r a i) I p k u n b = inl (stay I p _ (no_right I a i Kind.not k b.0, tt))
  plan_sound (Rules.and_l a i) I p k u n b =
      let h = both_true (at I a (first T i)) (at I a (second T i)) (yes_left I a i Kind.and k b.0) in
      inl (stay I p _ (ap not h.0, (ap not h.1, tt)))
  plan_sound (Rules.and_r a i) I p k u n b =
      ⊎_elim (λ h. inl (stay I p _ (h, tt))) (λ h. inr (inl (stay I p _ (h, tt)))) (one_false (at I a (first T i)) (at I a (second T i)) (no_right I a i Kind.and k b.0))
  plan_sound (Rules.or_l a i) I p k u n b =
      ⊎_elim (λ h. inl (stay I p _ (ap not h, tt))) (λ h. inr (inl (stay I p _ (ap not h, tt)))) (one_true (at I a (first T i)) (at I a (second T i)) (yes_left I a i Kind.or k b.0))
  plan_sound (Rules.or_r a i) I p k u n b =
      let h = both_false (at I a (first T i)) (at I a (second T i)) (no_right I a i Kind.or k b.0) in
      inl (stay I p _ (h.0, (h.1, tt)))
  plan_sound (Rules.sub_l a i j) I p k u n b =
      let h = every_true _ I.world.size (not-false (truth T I (sub i j)) b.0) (I.place a) (p a) in
      inl (stay I p _ (ap not (if_true (at I a i) (at I a j) h (not-false (at I a i) b.1.0)), tt))
  plan_sound (Rules.sub_r i j c) I p k u n b =
      let w = every_false _ I.world.size b.0 in
      let h = if_false (member I.world (tree_of T i) w.0) (member I.world (tree_of T j) w.0) w.2 in
      inl (move I p c w.0 w.1 _ (ap not (new_is I c w.0 i ∙ h.0), (new_is I c w.0 j ∙ h.1, tt)))
  plan_sound (Rules.some_l a i c) I p k u n b =
      let w = some_true _ I.world.size (yes_left I a i Kind.some k b.0) in
      let h = both_true (I.world.roles (role_of T i) (I.place a) w.0) (member I.world (tree_of T (inner T i)) w.0) w.2 in
      inl (move I p c w.0 w.1 _ (ap not (new_link I c w.0 (role_of T i) a i n.0 ∙ h.0), (ap not (new_is I c w.0 (inner T i) ∙ h.1), tt)))
  plan_sound (Rules.some_r a i c) I p k u n b =
      let h = some_false _ I.world.size (no_right I a i Kind.some k b.0) (I.place c) (p c) in
      let l = not-false (truth T I (link (role_of T i) a c)) b.1.0 in
      inl (stay I p _ (rw l at h, tt))
  plan_sound (Rules.all_l a i c) I p k u n b =
      let h = every_true _ I.world.size (yes_left I a i Kind.all k b.0) (I.place c) (p c) in
      let l = not-false (truth T I (link (role_of T i) a c)) b.1.0 in
      inl (stay I p _ (ap not (if_true (truth T I (link (role_of T i) a c)) (at I c (inner T i)) h l), tt))
  plan_sound (Rules.all_r a i c) I p k u n b =
      let w = every_false _ I.world.size (no_right I a i Kind.all k b.0) in
      let h = if_false (I.world.roles (role_of T i) (I.place a) w.0) (member I.world (tree_of T (inner T i)) w.0) w.2 in
      inl (move I p c w.0 w.1 _ (ap not (new_link I c w.0 (role_of T i) a i n.0 ∙ h.0), (new_is I c w.0 (inner T i) ∙ h.1, tt)))
