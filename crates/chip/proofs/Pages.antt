-- The code's table of operations and the manual's glossary are one: the operation that a number decodes to has the meaning of the number's
-- page.
use mathlib.Core.Path.{◌≡◌, refl, sym, ap, ◌∙◌}
use mathlib.Core.List.{List, [], ◌∷◌}
use Prim.Native.Nat.{◌≤◌, ℕ, zero, suc}
use lib.ListN.{get_or, get_or-eq_default}
use Rattle.std.proofs.Common.{Result, Ok, Err}
use Rattle.std.specs.Result.{is_err}
use Rattle.bits.proofs.Rest.{NoneBelow, past_below}
use Rattle.machine.specs.declared.Inputs.{Inputs}
use Rattle.machine.specs.declared.Outputs.{Outputs}
use Rattle.machine.specs.Inputs.{leaving}
use Rattle.reasons.specs.declared.Reason.{Reason}
use Rattle.reasons.specs.declared.Reason.TheVariants.{Opcode}
use Rattle.chip.specs.declared.Operation.{Operation}
use Rattle.chip.specs.Glossary.{Page, glossary, page_of, following, perform_of}
use Rattle.chip.specs.Glossary.Page.{page, no_page}
use Rattle.chip.specs.Single.{is_no_page, lacks_page}
use Rattle.chip.specs.Operations.{operations, decoded_of, meaning_of}

-- the page of what a number decodes to
abbrev pub page_for : Result Operation Reason → Page
page_for (Ok o) = page (meaning_of o)
page_for (Err r) = no_page

abbrev pages_for : List (Result Operation Reason) → List Page
pages_for [] = []
pages_for (d ∷ ds) = page_for d ∷ pages_for ds

-- all 128 entries, by computation
one_table : pages_for operations ≡ glossary
one_table = refl

pages_at : (ds : List (Result Operation Reason)) (n : ℕ) → get_or (pages_for ds) n no_page ≡ page_for (get_or ds n (Err Opcode))
pages_at [] n = refl
pages_at (d ∷ ds) zero = refl
pages_at (d ∷ ds) (suc n) = pages_at ds n

pub page_decoded : (n : ℕ) → page_of n ≡ page_for (decoded_of n)
page_decoded n = ap (λ (ps : List Page). get_or ps n no_page) (sym one_table) ∙ pages_at operations n

-- whether a number has no page, from what it decodes to
pub lacks_decoded : (n : ℕ) → lacks_page n ≡ is_no_page (page_for (decoded_of n))
unfolding lacks_page
lacks_decoded n = ap is_no_page (page_decoded n)

-- which is what the code asks
pub lacks_err : (d : Result Operation Reason) → is_err d ≡ is_no_page (page_for d)
lacks_err (Ok o) = refl
lacks_err (Err r) = refl

pub ruleset lacking = (lacks_decoded, lacks_err)

-- what a number's operation does is what the whole word does
pub performs : (n : ℕ) (o : Operation) (x : Inputs) → decoded_of n ≡ Ok o → meaning_of o x ≡ perform_of n x
unfolding perform_of
performs n o x e = ap (λ (p : Page). following p x) (sym (page_decoded n ∙ ap page_for e))

-- what does the page of k, done for the number k, does the whole word
pub at : {n k : ℕ} {r : Outputs} (x : Inputs) → n ≡ k → r ≡ following (page_of k) x → r ≡ perform_of n x
unfolding perform_of
at x e h = h ∙ sym (ap (λ (m : ℕ). following (page_of m) x) e)

-- past all 128 there is no page
pub past_glossary : {r : Outputs} (n : ℕ) (x : Inputs) → 128 ≤ n → r ≡ leaving x 0 x.status → r ≡ perform_of n x
unfolding perform_of
past_glossary n x l h = h ∙ sym (ap (λ (p : Page). following p x) (get_or-eq_default glossary no_page {n = n} l))

-- the same of a number that is none of theirs
pub past_all : {r : Outputs} (n : ℕ) (x : Inputs) → NoneBelow n 128 → r ≡ leaving x 0 x.status → r ≡ perform_of n x
past_all n x rest h = past_glossary n x (past_below n 128 rest) h
