-- The verdicts. Every text has one of four outcomes: the room is narrow, the text long, a line bad, or the lines are read through and the end decides
-- (`Passing`, `Ending`). What is read through is of the form and is what the lines say (`Heard`), and a text of the form is read through (`Runs`).
-- Assumes nothing.
use Prim.Native.Nat.{ℕ, zero, suc, ◌≤◌, ◌<◌}
use native.Mathlib.Omega.{arith}
use native.Mathlib.Nat.{zero-add}
use mathlib.Core.Bool.{Bool, true, false, false≢true}
use mathlib.Core.List.{List, [], ◌∷◌, map}
use mathlib.Core.Logic.{◌↔◌}
use mathlib.Core.Path.{◌≡◌, refl, sym, ap, subst, ◌∙◌}
use lib.Dec.{leb, eqb}
use lib.ListN.{length}
use borrow.Author.Tests.{leb-true, leb-false, le-leb, lt-leb, eqb-false}
use Rattle.lines.specs.Text.{lines_of}
use Rattle.alc.specs.Lists.{All, is_empty}
use Rattle.alc.specs.Rows.{refusal}
use Rattle.alc.specs.Model.{interp_of, all_placed}
use Rattle.alc.specs.Dossier.{Said, said_by}
use Rattle.alc.specs.Verdict.{Verdict, proved, refuted, refused, Part, steps, facts, place, State, begin, ending, judge, verdict, outer_rows}
use Rattle.alc.specs.Accepts.{Proves, Against, Falsifies}
use Rattle.alc.specs.Refusal as Refusal
use Rattle.alc.specs.Refusal.{Passes, BadLine, said, Refuses}
use Rattle.alc.proofs.Derive.{derives_works, works_derives}
use Rattle.alc.proofs.Passing.{line_positive, passes_ending, bad_refused, Judged, through, stopped, judged}
use Rattle.alc.proofs.Runs.{Run, passes_run, run_passes, proof_run, model_run}
use Rattle.alc.proofs.Heard.{Heard, in_table_lem, in_claims_lem, in_steps_lem, in_start, in_facts_lem, heard}
use Rattle.alc.proofs.Ending.{Ends, closed, falsified, missing, wrong, ends_so, ends}

-- FOUR OUTCOMES
pub data Decides (room : ℕ) (text : List ℕ) : Verdict → Type 0 where
  narrow : room < 1088 → Decides room text (refused 14 0)
  long : 1088 ≤ room → 65535 < length text → Decides room text (refused 1 0)
  bad : {k m : ℕ} → 1088 ≤ room → length text ≤ 65535 → BadLine begin (lines_of text) (suc k) m → Decides room text (refused (suc k) (suc m))
  end : {E : State} {v : Verdict} → 1088 ≤ room → length text ≤ 65535 → Passes begin (lines_of text) E → Ends (length (lines_of text)) E v → Decides room text v

module _ (room : ℕ) (text : List ℕ) where
  -- each text has one
  outcome : (v : Verdict) × Decides room text v
  outcome = go (leb 1088 room) refl (leb (length text) 65535) refl (judged begin (lines_of text))
    where
      go : (a : Bool) → leb 1088 room ≡ a → (b : Bool) → leb (length text) 65535 ≡ b → Judged begin (lines_of text) → (v : Verdict) × Decides room text v
      go false e b f j = (refused 14 0, narrow (leb-false 1088 room e))
      go true e false f j = (refused 1 0, long (leb-true 1088 room e) (leb-false (length text) 65535 f))
      go true e true f (stopped k m b) = (refused (suc k) (suc m), bad (leb-true 1088 room e) (leb-true (length text) 65535 f) b)
      go true e true f (through E w) =
          (ending (length (lines_of text)) E, end (leb-true 1088 room e) (leb-true (length text) 65535 f) w (ends (length (lines_of text)) E))

  -- what follows the two rows before the first line
  abbrev begun : ℕ → Verdict
  begun x = elim x [ zero ↦ judge 0 begin (lines_of text) | suc k ↦ refused (suc k) 0 ]

  fine : 1088 ≤ room → length text ≤ 65535 → verdict room text ≡ judge 0 begin (lines_of text)
  unfolding verdict
  fine h k = let r : refusal (outer_rows room text) ≡ 0 = rw (le-leb 1088 room h, le-leb (length text) 65535 k) in ap begun r

  -- and each its verdict
  pub decided : {v : Verdict} → Decides room text v → verdict room text ≡ v
  unfolding verdict
  decided (narrow h) = let r : refusal (outer_rows room text) ≡ 14 = rw (lt-leb 1088 room h) in ap begun r
  decided (long h k) = let r : refusal (outer_rows room text) ≡ 1 = rw (le-leb 1088 room h, lt-leb (length text) 65535 k) in ap begun r
  decided (bad {k} {m} h s b) = fine h s ∙ bad_refused begin (lines_of text) k m 0 b ∙ ap (λ z. refused (suc k) (suc z)) (zero-add m)
  decided (end {E} h s w e) =
      fine h s ∙ passes_ending w 0 ∙ ap (λ n. ending n E) (zero-add (length (lines_of text))) ∙ ends_so (length (lines_of text)) E e

  decides : {v : Verdict} → verdict room text ≡ v → Decides room text v
  decides e = subst (Decides room text) (sym (decided outcome.1) ∙ e) outcome.1

-- PROVED AND REFUTED
-- no part is another
other_part : {P : Type 0} {p q : Part} → p ≡ q → eqb (place p) (place q) ≡ false → P
other_part {p = p} {q} e f = absurd (eqb-false (place p) (place q) f (ap place e))

module _ (text : List ℕ) (short : length text ≤ 65535) where
  steps_heard : {E : State} {ss : List Said} → Heard E ss → map said_by (lines_of text) ≡ ss → E.part ≡ steps → is_empty E.goals ≡ true → Proves text
  steps_heard (in_table_lem t) e h g = other_part h refl
  steps_heard (in_claims_lem t c) e h g = other_part h refl
  steps_heard (in_steps_lem {T} {cs} {ss} {gs = []} t c s w) e h g =
      record { table = T; claims = cs; steps = ss; reads = record { short = short; lines = e; table = t; claims = c; steps = s }; derives = works_derives T w }
  steps_heard (in_steps_lem {gs = x ∷ gs} t c s w) e h g = absurd (false≢true g)
  steps_heard (in_start t c) e h g = other_part h refl
  steps_heard (in_facts_lem t c f) e h g = other_part h refl

  facts_heard : {E : State} {ss : List Said} → Heard E ss → map said_by (lines_of text) ≡ ss → E.part ≡ facts → all_placed E.facts E.claims ≡ true
      → All (Against E.table (interp_of E.size E.facts)) E.claims → Falsifies text
  facts_heard (in_table_lem t) e h p a = other_part h refl
  facts_heard (in_claims_lem t c) e h p a = other_part h refl
  facts_heard (in_steps_lem t c s w) e h p a = other_part h refl
  facts_heard (in_start t c) e h p a = other_part h refl
  facts_heard (in_facts_lem {T} {cs} {n} {fs} t c f) e h p a =
      record {
        table = T;
        claims = cs;
        size = n;
        facts = fs;
        reads = record { short = short; lines = e; table = t; claims = c; facts = f };
        placed = p;
        against = a;
      }

module _ (room : ℕ) (text : List ℕ) where
  -- the lines of the text, read through
  through_lines : {ss : List Said} {E : State} → map said_by (lines_of text) ≡ ss → Run begin ss E → Passes begin (lines_of text) E
  through_lines {E = E} e w = run_passes (lines_of text) (subst (λ z. Run begin z E) (sym e) w)

  proved_so : {n : ℕ} → Decides room text (proved n) → (1088 ≤ room) × Proves text × (n ≡ length (lines_of text))
  proved_so (end h s w (closed p g)) = (h, steps_heard text s (heard (passes_run w)) refl p g, refl)

  so_proved : 1088 ≤ room → Proves text → Decides room text (proved (length (lines_of text)))
  so_proved h p =
      let r = p.reads in
      end h r.short
      (through_lines r.lines (proof_run p.table p.claims r.table r.claims r.steps (derives_works p.table p.derives [] refl))) (closed refl refl)

  refuted_so : {n : ℕ} → Decides room text (refuted n) → (1088 ≤ room) × Falsifies text × (n ≡ length (lines_of text))
  refuted_so (end h s w (falsified p a c)) = (h, facts_heard text s (heard (passes_run w)) refl p a c, refl)

  so_refuted : 1088 ≤ room → Falsifies text → Decides room text (refuted (length (lines_of text)))
  so_refuted h p =
      let r = p.reads in
      end h r.short (through_lines r.lines (model_run p.table p.claims p.size p.facts r.table r.claims r.facts))
      (falsified refl p.placed p.against)

  pub proved_iff : (n : ℕ) → (verdict room text ≡ proved n) ↔ ((1088 ≤ room) × Proves text × (n ≡ length (lines_of text)))
  proved_iff n = (λ e. proved_so (decides room text e), λ h. decided room text (so_proved h.0 h.1) ∙ ap proved (sym h.2))

  pub refuted_iff : (n : ℕ) → (verdict room text ≡ refuted n) ↔ ((1088 ≤ room) × Falsifies text × (n ≡ length (lines_of text)))
  refuted_iff n = (λ e. refuted_so (decides room text e), λ h. decided room text (so_refuted h.0 h.1) ∙ ap refuted (sym h.2))

  -- REFUSED
  by_ending : {E : State} {k n : ℕ} → 1088 ≤ room → length text ≤ 65535 → Passes begin (lines_of text) E → Ends (length (lines_of text)) E (refused k n) → Refuses room text k n
  by_ending h s w (missing u) = Refusal.at_end h s w u
  by_ending h s w (wrong p u f) = Refusal.by_model h s w p u f

  refused_so : {k n : ℕ} → Decides room text (refused k n) → Refuses room text k n
  refused_so (narrow h) = Refusal.narrow h
  refused_so (long h s) = Refusal.long h s
  refused_so (bad h s b) = Refusal.at_line h s b
  refused_so (end h s w e) = by_ending h s w e

  so_refused : {k n : ℕ} → Refuses room text k n → Decides room text (refused k n)
  so_refused (Refusal.narrow h) = narrow h
  so_refused (Refusal.long h s) = long h s
  so_refused (Refusal.at_line {k = zero} h s b) = absurd (omega (arith, line_positive b.read (said b.read b.bad) 0 b.first))
  so_refused (Refusal.at_line {k = suc k} h s b) = bad h s b
  so_refused (Refusal.at_end h s w u) = end h s w (missing u)
  so_refused (Refusal.by_model h s w p u f) = end h s w (wrong p u f)

  pub refused_iff : (k n : ℕ) → (verdict room text ≡ refused k n) ↔ Refuses room text k n
  refused_iff k n = (λ e. refused_so (decides room text e), λ r. decided room text (so_refused r))
