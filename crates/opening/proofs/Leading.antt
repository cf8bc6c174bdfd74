-- What the lines lead to: each part of the dossier is read from where the part before it ends, so the walks over the parts are one.
-- Assumes nothing.
use Rattle.std.proofs.Common.{ℕ, ◌≡◌, ◌≤◌, refl, sym, ap, subst, ◌∙◌, List, [], map, length, drop, true, Result, Ok, arith}
use native.Mathlib.Numerals.{add-one}
use Rattle.lines.specs.Text.{lines_of}
use Rattle.alc.specs.Lists.{All, every}
use Rattle.alc.specs.Ranges.{in_range}
use Rattle.alc.specs.Claims.{Sided, claim, claim_fields}
use Rattle.alc.specs.Table.{Table}
use Rattle.alc.specs.Shown.{sided_of, claims_in, number_of, answered}
use Rattle.alc.specs.Verdict.{refused, begin, judge}
use Rattle.alc.specs.declared.Answer.{Answer}
use Rattle.alc.proofs.ShownLaws.{all_back}
use Rattle.alc.proofs.Refusals.{number_some}
use Rattle.parts.specs.Parts.{in_claims, at_start, Listing, TableRefused, ClaimsHeard, ClaimsRefused, ClaimsLead}
use Rattle.parts.specs.declared.Stopped.{Stopped}
use Rattle.parts.specs.declared.Listed.{Listed}
use Rattle.parts.specs.declared.Claims.{Claims}
use Rattle.parts.specs.declared.Heading.{Heading}
use Rattle.parts.specs.declared.Section.{Section}
use Rattle.parts.specs.declared.Section.TheVariants.{Proof, Model}
use Rattle.parts.proofs.Through.{through_judge, through_bounds}
use Rattle.parts.proofs.Stops.{table_refused, table_left, table_then, table_behind, table_apart, claims_bounds, claims_refused, claims_proof, claims_model, claims_apart}
use Rattle.states.specs.Standing.{begun_of}
use Rattle.opening.specs.Opened.{First, Ends, Begins}

-- the table is refused
pub no_table : (text : List ℕ) (e : Stopped Listed) → TableRefused text e → Ends text (answered (Answer.Refused (number_of e.refused.refusal) e.refused.line))
no_table text e r = record {
  none = λ T cs lines at w. table_apart r.listing (number_some e.refused.refusal) w refl;
  so = ap (refused (number_of e.refused.refusal)) (r.line ∙ add-one (length e.read.table)) ∙ sym (table_refused r.listing (number_some e.refused.refusal));
}

-- behind the table that was read
module _ (text : List ℕ) (T : Table) (at : ℕ) (r : Listing text T at 0) where
  -- the next line begins within the text, behind as many bytes as lines at least
  pub bounds : (at ≤ length text) × (length T ≤ at)
  bounds = through_bounds r.read (omega arith, omega arith)

  headed : judge 0 begin (lines_of text) ≡ judge (length T) (in_claims T []) (lines_of (drop at text))
  headed = table_left r refl

  -- no derivation follows where `proof` does not follow the claims
  apart : {cs : List Sided} {m to : ℕ} {e : Result Section ℕ} → ClaimsLead text T at cs m to e → (e ≡ Ok Proof → ⊥)
      → (U : Table) (ds : List Sided) (k c : ℕ) → First text U ds k c → ⊥
  apart d f U ds k c w = claims_apart d f (table_behind r refl w (omega arith))

  -- the claims are refused
  pub no_claims : (e : Stopped Claims) → ClaimsRefused text T at e → Ends text (answered (Answer.Refused (number_of e.refused.refusal) e.refused.line))
  no_claims e h = record {
    none = apart h.leads (λ q. let z : ◌≡◌ {A = ℕ} 0 1 = cc in omega arith);
    so = ap (refused (number_of e.refused.refusal)) (h.line ∙ add-one e.read.reached.lines) ∙ sym (headed ∙ claims_refused h.leads);
  }

  -- behind the claims that were read
  module _ (k : Heading) (h : ClaimsHeard text T at k) where
    -- the claims of its records
    shown : claims_in k.claims ≡ h.cs
    shown = ap (map sided_of) h.shown ∙ all_back h.cs

    pub ranged : All (λ s. every (in_range (length T) 0) (claim_fields (claim s)) ≡ true) (claims_in k.claims)
    ranged = subst (λ (l : List Sided). All (λ s. every (in_range (length T) 0) (claim_fields (claim s)) ≡ true) l) (sym shown) h.ranges

    pub further : (k.reached.at ≤ length text) × (k.reached.lines ≤ k.reached.at)
    further = claims_bounds h.leads bounds

    pub begins : length T ≤ 256 → k.section ≡ Proof → Begins text T (begun_of k.claims k.reached.at k.reached.lines)
    begins low e = record {
      few = low;
      state = refl;
      small = h.few;
      cs = h.cs;
      current = h.shown;
      walk = table_then r (claims_proof (subst (λ s. ClaimsLead text T at h.cs k.reached.lines k.reached.at (Ok s)) e h.leads)) (omega arith);
    }

    pub modelled : (a : Answer) → answered a ≡ judge k.reached.lines (at_start T (claims_in k.claims)) (lines_of (drop k.reached.at text)) → k.section ≡ Model → Ends text (answered a)
    modelled a j e =
        let d = subst (λ s. ClaimsLead text T at h.cs k.reached.lines k.reached.at (Ok s)) e h.leads in
        record {
          none = apart d (λ q. let z : ◌≡◌ {A = ℕ} 0 1 = cc in omega arith);
          so =
              j
              ∙ ap (λ (cs : List Sided). judge k.reached.lines (at_start T cs) (lines_of (drop k.reached.at text))) shown
              ∙ sym (headed ∙ through_judge (claims_model d));
        }
