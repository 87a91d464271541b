-- The examples together. Assumes nothing.
use Rattle.page.specs.Law.{Settings}
use Rattle.page.specs.Page.{Page}
use Rattle.worked.specs.Brackets.{WorkedBrackets}
use Rattle.worked.specs.Pages.{WorkedPages}
use Rattle.worked.specs.Places.{WorkedPlaces}
use Rattle.worked.specs.Readiness.{WorkedReady}
use Rattle.worked.specs.Rows.{WorkedDrops, WorkedHalves, WorkedMarks, WorkedParameters, WorkedWrap}
use Rattle.worked.specs.Rules.{WorkedRules}
use Rattle.worked.specs.Steps.{Tests, WorkedAsks, WorkedRuns, WorkedSteps, world_of}
use Rattle.worked.specs.Texts.{WorkedTexts}
use Rattle.worked.specs.Writes.{WorkedWrites}

-- every example holds
pub record WorkedFacts : Type 0 where
  pub places : WorkedPlaces
  pub writes : (p : Page) → WorkedWrites p
  pub pages : (p : Page) → WorkedPages p
  pub rules : (p : Page) → WorkedRules p
  pub asks : (t : Tests) (z : Settings) → WorkedAsks (world_of t) z
  pub steps : (t : Tests) (z : Settings) → WorkedSteps (world_of t) z
  pub runs : (t : Tests) (z : Settings) → WorkedRuns (world_of t) z
  pub brackets : WorkedBrackets
  pub halves : WorkedHalves
  pub wrap : WorkedWrap
  pub marks : WorkedMarks
  pub drops : WorkedDrops
  pub parameters : WorkedParameters
  pub ready : WorkedReady
  pub texts : WorkedTexts
