-- One line over the room: a goal that is stored in the next place leaves those below as they are and comes back as it was, and what is fetched is the
-- goal that was put aside last. So the derivation stands behind a step that passes as the judge does. Assumes nothing.
use Prim.Native.Nat.{ℕ, suc, ◌+◌, ◌-◌, ◌*◌, ◌≤◌, ◌<◌}
use native.Mathlib.Omega.{arith}
use native.Mathlib.Decide.{ℕ_discrete}
use mathlib.Core.Bool.{Bool, true, false, cond}
use mathlib.Core.List.{List, [], ◌∷◌, ◌++◌, map}
use lib.Dec.{eqb}
use mathlib.Core.Path.{◌≡◌, sym, ap, ap₂, subst, ◌∙◌}
use borrow.Author.Tests.{ne_eqb}
use lib.ListN.{length, get_or, set, take, length-set}
use lib.Seq.{get_or-set_same, get_or-set_other}
use Rattle.std.specs.Prelude.{Ok}
use Rattle.lines.specs.Text.{at_steps}
use Rattle.lines.specs.Walk.{read_at}
use Rattle.alc.specs.Table.{Table}
use Rattle.alc.specs.Claims.{Sided, Goal}
use Rattle.alc.specs.Shown.{records, record_of, Shows}
use Rattle.alc.specs.Verdict.{Verdict}
use Rattle.alc.specs.declared.Claim.{Claim as Record}
use Rattle.alc.specs.declared.Goal.{Goal as Records}
use Rattle.goals.specs.Records.{added, premise_at}
use Rattle.goals.proofs.Steps.{Leaves, none, one, two}
use Rattle.shelf.specs.Stored.{stored, fetched}
use Rattle.shelf.proofs.Back.{stored_below, fetched_same, fetched_stored}
use Rattle.states.specs.Standing.{state_of, Ready}
use Rattle.states.specs.declared.State.{State}
use Rattle.steps.specs.Acting.{Current, from, StepAt}
use Rattle.steps.specs.declared.Passed.{Passed}
use Rattle.steps.proofs.StepWalk.{Passing, Led}
use Rattle.derivation.specs.Waiting.{last_of, Waiting, Rest, Stands, closed_of, PutAside, Behind, Onward, Done, Stepped}

-- the goals below place k wait on in a room that is the same below it
stays : (l m : List Record) (counts counts' : List ℕ) (k : ℕ) → take (k * 64) m ≡ take (k * 64) l → ((j : ℕ) → j < k → get_or counts' j 0 ≡ get_or counts j 0)
    → ((j : ℕ) → get_or counts j 0 ≤ 64) → (hs : List Goal) → length hs ≤ k → Waiting l counts hs → Waiting m counts' hs
unfolding Waiting
stays l m counts counts' k same same' sizes [] h w = tt
stays l m counts counts' k same same' sizes (x ∷ hs) h w =
    let n = get_or counts (length hs) 0 in
    let few : n ≤ 64 = sizes (length hs) in
    let e : fetched m (length hs * 64) n ≡ fetched l (length hs * 64) n = fetched_same l m (k * 64) (length hs * 64) n (omega arith) same in (
      ap (λ (c : ℕ). take c (fetched m (length hs * 64) c)) (same' (length hs) (omega arith)) ∙ ap (take n) e ∙ w.0,
      stays l m counts counts' k same same' sizes hs (omega arith) w.1,
    )

-- a goal that is stored in the next place waits above the others
pushed : (l : List Record) (counts : List ℕ) (g : Records) (x : Goal) (hs : List Goal) → length counts ≡ 16 → length hs < 16 → ((j : ℕ) → get_or counts j 0 ≤ 64) → g.count ≤ 64
    → g.count ≤ length g.claims → length hs * 64 + 64 ≤ length l → Shows g x → Waiting l counts hs
    → Waiting (stored l (length hs * 64) g.claims g.count) (set counts (length hs) g.count) (x ∷ hs)
unfolding Waiting
pushed l counts g x hs slots few sizes small full fits sh w = (
  ap (λ (c : ℕ). take c (fetched (stored l (length hs * 64) g.claims g.count) (length hs * 64) c)) (get_or-set_same counts (length hs) g.count 0 (omega arith))
      ∙ fetched_stored l (length hs * 64) g.claims g.count full (omega arith)
      ∙ sh,
  stays l (stored l (length hs * 64) g.claims g.count) counts (set counts (length hs) g.count) (length hs) (stored_below l (length hs * 64) g.claims g.count (omega arith))
      (λ j (h : j < length hs). get_or-set_other counts (length hs) j g.count 0 (λ (e : j ≡ length hs). omega arith)) sizes hs (omega arith) w,
)

-- and the last of them is what is fetched
fetched_last : (l : List Record) (counts : List ℕ) (x : Goal) (hs : List Goal) (n : ℕ) → n ≡ suc (length hs) → Waiting l counts (x ∷ hs) → Shows (last_of l counts n) x
unfolding Waiting
fetched_last l counts x hs n e w =
    let k : n - 1 ≡ length hs = omega arith in
    ap (λ (i : ℕ). take (get_or counts i 0) (fetched l (i * 64) (get_or counts i 0))) k ∙ w.0

below : (l : List Record) (counts : List ℕ) (x : Goal) (hs : List Goal) → Waiting l counts (x ∷ hs) → Waiting l counts hs
unfolding Waiting
below l counts x hs w = w.1

-- a step that passes
module _ (text : List ℕ) (l : List Record) (s : State) (big : 1088 ≤ length l) (v : Ready text s) (p : Passed) where
  -- the state behind it, with another goal, other counts and another count of open goals
  abbrev behind : Records → List ℕ → ℕ → State
  behind g counts n = state_of g counts n (s.steps + 1) (s.reached.lines + 1) p.at

  ready : {T : Table} → Passing T text s p → (g : Records) (counts : List ℕ) (n : ℕ) → g.count ≤ 64 → length counts ≡ 16 → ((i : ℕ) → get_or counts i 0 ≤ 64) → n ≤ 17
      → Ready text (behind g counts n) × (s.reached.at < p.at)
  ready q g counts n small slots sizes few =
      (record { few = few; small = small; slots = slots; sizes = sizes; within = q.within; counted = omega (arith, v.counted, q.later) }, q.later)

  -- what `Stepped` says of what is behind it: another line can be read there, and the verdict stays
  abbrev pub Goes_on : Table → List Record → State → Type 0
  Goes_on T m r = Onward text s r (Ok tt) × ((cs : List Sided) (w : Verdict) → Stands T cs text w l s → Behind T cs text w m r (Ok tt))

  module _ (T : Table) (q : Passing T text s p) where
    -- the derivation stands behind it, if it does so for each goal that was open and those that wait
    stands : (m : List Record) (r : State)
        → ((cs : List Sided) (w : Verdict) (x : Goal) (hs : List Goal) → length T ≤ 256 → s.open ≡ suc (length hs) → Waiting l s.counts hs → w ≡ from T cs text s (x ∷ hs)
        → Led T cs text s p x hs → Stands T cs text w m r)
        → (cs : List Sided) (w : Verdict) → Stands T cs text w l s → Stands T cs text w m r
    stands m r go cs w st = at st.goals st.count st.current st.waiting st.so
      where
        at : (gs : List Goal) → s.open ≡ length gs → Current s.goal gs → Rest l s.counts gs → w ≡ from T cs text s gs → Stands T cs text w m r
        at [] o c h e = absurd (omega (arith, o, q.some))
        at (x ∷ hs) o c h e = go cs w x hs st.few o h e (q.leads st.few cs x hs o c)

    -- ONE PREMISE
    pub one_more : (g : Records) → length (added p.turn.leaves) ≡ 1 → records g ≡ premise_at 0 p.turn (records s.goal) → g.count ≤ 64
        → Goes_on T l (behind g s.counts s.open)
    one_more g n sg small = (ready q g s.counts s.open small v.slots v.sizes v.few, stands l (behind g s.counts s.open) go)
      where
        go : (cs : List Sided) (w : Verdict) (x : Goal) (hs : List Goal) → length T ≤ 256 → s.open ≡ suc (length hs) → Waiting l s.counts hs → w ≡ from T cs text s (x ∷ hs)
            → Led T cs text s p x hs → Stands T cs text w l (behind g s.counts s.open)
        go cs w x hs few o h e d = by d.premises d.leaves d.so
          where
            by : (ps : List Goal) → Leaves (records s.goal) p.turn ps → from T cs text s (x ∷ hs) ≡ from T cs text (behind g s.counts s.open) (ps ++ hs)
                → Stands T cs text w l (behind g s.counts s.open)
            by [] (none k) f = absurd (omega (arith, k, n))
            by (y ∷ []) (one _ k sy) f = record { few = few; goals = y ∷ hs; count = o; current = sg ∙ sy; waiting = h; so = e ∙ f }
            by (y ∷ z ∷ []) (two _ _ k sy sz) f = absurd (omega (arith, k, n))
            by (y ∷ (z ∷ (_ ∷ _))) r f = elim r [ ]

    -- NO PREMISE
    pub none_more : length (added p.turn.leaves) ≡ 0 → Goes_on T l (closed_of l (behind s.goal s.counts s.open))
    none_more n = (ready q _ s.counts (s.open - 1) small v.slots v.sizes (omega (arith, v.few)), stands l (closed_of l (behind s.goal s.counts s.open)) go)
      where
        small : (cond (eqb (s.open - 1) 0) s.goal (last_of l s.counts (s.open - 1))).count ≤ 64
        small = by (eqb (s.open - 1) 0)
          where
            by : (b : Bool) → (cond b s.goal (last_of l s.counts (s.open - 1))).count ≤ 64
            by true = v.small
            by false = v.sizes (s.open - 1 - 1)

        go : (cs : List Sided) (w : Verdict) (x : Goal) (hs : List Goal) → length T ≤ 256 → s.open ≡ suc (length hs) → Waiting l s.counts hs → w ≡ from T cs text s (x ∷ hs)
            → Led T cs text s p x hs → Stands T cs text w l (closed_of l (behind s.goal s.counts s.open))
        go cs w x hs few o h e d = by d.premises d.leaves d.so
          where
            last : (gs : List Goal) → s.open ≡ suc (length gs) → Waiting l s.counts gs → w ≡ from T cs text (closed_of l (behind s.goal s.counts s.open)) gs
                → Stands T cs text w l (closed_of l (behind s.goal s.counts s.open))
            last [] o h f = record { few = few; goals = []; count = omega arith; current = tt; waiting = tt; so = f }
            last (y ∷ gs) o h f = record {
              few = few;
              goals = y ∷ gs;
              count = omega arith;
              current =
                  let some : s.open - 1 ≡ 0 → ⊥ = λ z. omega arith in
                  ap (λ (b : Bool). records (cond b s.goal (last_of l s.counts (s.open - 1)))) (ne_eqb (s.open - 1) 0 some)
                  ∙ fetched_last l s.counts y gs (s.open - 1) (omega arith) h;
              waiting = below l s.counts y gs h;
              so = f;
            }

            by : (ps : List Goal) → Leaves (records s.goal) p.turn ps → from T cs text s (x ∷ hs) ≡ from T cs text (closed_of l (behind s.goal s.counts s.open)) (ps ++ hs)
                → Stands T cs text w l (closed_of l (behind s.goal s.counts s.open))
            by [] (none k) f = last hs o h (e ∙ f)
            by (y ∷ []) (one _ k sy) f = absurd (omega (arith, k, n))
            by (y ∷ z ∷ []) (two _ _ k sy sz) f = absurd (omega (arith, k, n))
            by (y ∷ (z ∷ (_ ∷ _))) r f = elim r [ ]

    -- TWO PREMISES
    pub two_more : (g : Records) (m : List Record) (r : State) → length (added p.turn.leaves) ≡ 2 → records g ≡ premise_at 0 p.turn (records s.goal) → g.count ≤ 64
        → PutAside l (behind g s.counts s.open) p.turn m r → Goes_on T m r
    two_more g m r n sg small a = (onward, stands m r go)
      where
        few : s.open ≤ 16
        few = omega (arith, q.few, n, q.some)

        counts : List ℕ
        counts = set s.counts (s.open - 1) g.count

        sizes : (i : ℕ) → get_or counts i 0 ≤ 64
        sizes i = by (ℕ_discrete i (s.open - 1))
          where
            by : Dec (i ≡ s.open - 1) → get_or counts i 0 ≤ 64
            by (yes e) = rw (e, get_or-set_same s.counts (s.open - 1) g.count 0 (omega (arith, v.slots, few))) small
            by (no e) = rw (get_or-set_other s.counts (s.open - 1) i g.count 0 e) (v.sizes i)

        onward : Ready text r × (s.reached.at < r.reached.at)
        onward =
            subst (λ (z : State). Ready text z × (s.reached.at < z.reached.at)) (sym a.state)
            (ready q g counts (s.open + 1) small (length-set s.counts (s.open - 1) g.count ∙ v.slots) sizes (omega (arith, few)))

        go : (cs : List Sided) (w : Verdict) (x : Goal) (hs : List Goal) → length T ≤ 256 → s.open ≡ suc (length hs) → Waiting l s.counts hs → w ≡ from T cs text s (x ∷ hs)
            → Led T cs text s p x hs → Stands T cs text w m r
        go cs w x hs low o h e d = subst (λ (z : State). Stands T cs text w m z) (sym a.state) (by d.premises d.leaves d.so)
          where
            held : (z : Goal) → records a.second ≡ map record_of z → Waiting m counts (z ∷ hs)
            held z sz =
                let k : s.open - 1 ≡ length hs = omega arith in
                subst (λ (t : List Record). Waiting t counts (z ∷ hs)) (sym (a.room ∙ ap (λ (i : ℕ). stored l (i * 64) a.second.claims a.second.count) k))
                (subst (λ (c : List ℕ). Waiting (stored l (length hs * 64) a.second.claims a.second.count) c (z ∷ hs)) (ap₂ (set s.counts) (sym k) a.count)
                (pushed l s.counts a.second z hs v.slots (omega (arith, o, few)) v.sizes (omega (arith, a.count, small)) a.full (omega (arith, o, few, big)) sz h))

            by : (ps : List Goal) → Leaves (records s.goal) p.turn ps → from T cs text s (x ∷ hs) ≡ from T cs text (behind g counts (s.open + 1)) (ps ++ hs)
                → Stands T cs text w m (behind g counts (s.open + 1))
            by [] (none k) f = absurd (omega (arith, k, n))
            by (y ∷ []) (one _ k sy) f = absurd (omega (arith, k, n))
            by (y ∷ z ∷ []) (two _ _ k sy sz) f = record {
              few = low;
              goals = y ∷ z ∷ hs;
              count = omega arith;
              current = sg ∙ sy;
              waiting = held z (a.shows (records s.goal) sg n ∙ sz);
              so = e ∙ f;
            }
            by (y ∷ (z ∷ (_ ∷ _))) r f = elim r [ ]

  -- WHAT IT DOES, where the line is that step
  abbrev Step : Table → Type 0
  Step T = StepAt T s (read_at text s.reached.at at_steps) (Ok p)

  module _ (T : Table) (k : Step T) (q : Passing T text s p) where
    stepped : (m : List Record) (r : State) → Done l s p m r → Goes_on T m r → Stepped text T l s m r (Ok tt)
    stepped m r d g = record { does = record { passed = p; step = k; done = d }; onward = g.0; behind = g.1 }

    pub one_done : (g : Records) → length (added p.turn.leaves) ≡ 1 → records g ≡ premise_at 0 p.turn (records s.goal) → g.count ≤ 64
        → Stepped text T l s l (behind g s.counts s.open) (Ok tt)
    one_done g n sg small = stepped _ _ (Done.one g n sg) (one_more T q g n sg small)

    pub none_done : length (added p.turn.leaves) ≡ 0 → Stepped text T l s l (closed_of l (behind s.goal s.counts s.open)) (Ok tt)
    none_done n = stepped _ _ (Done.none n) (none_more T q n)

    pub two_done : (g : Records) (m : List Record) (r : State) → length (added p.turn.leaves) ≡ 2 → records g ≡ premise_at 0 p.turn (records s.goal) → g.count ≤ 64
        → PutAside l (behind g s.counts s.open) p.turn m r → Stepped text T l s m r (Ok tt)
    two_done g m r n sg small a = stepped m r (Done.two g n sg a) (two_more T q g m r n sg small a)

-- the loop holds this of the room m and the state r: a line can be read, and the derivation stands there as it does from l and s on
pub record Holds (text : List ℕ) (T : Table) (l : List Record) (s : State) (m : List Record) (r : State) : Type 0 where
  pub long : length m ≡ length l
  pub ready : Ready text r
  pub after : (cs : List Sided) (w : Verdict) → Stands T cs text w l s → Stands T cs text w m r
