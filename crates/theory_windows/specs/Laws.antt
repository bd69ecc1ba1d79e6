-- The laws of windows, over the points of P. Tiles are named by address and motion.
use Rattle.theory_substitution.specs.Points.{Points}
use Rattle.theory_substitution.specs.Supertile.{Placed}
use Rattle.theory_addresses.specs.Address.{Step}
use Rattle.theory_windows.specs.ClosedChains.{ClosedChain, ClosedChains}
use Rattle.theory_windows.specs.Meeting.{TriangleMeets, PolygonMeets}
use Rattle.theory_windows.specs.CutEdges.{CutMeets, CutsMeet}
use Rattle.theory_windows.specs.Gluing.{Rotation, Gluing}
use Rattle.theory_windows.specs.WholeTiles.{WholesCoverBox}
use Rattle.theory_windows.specs.Window.{WindowTheorem, KnownByOutline, OneOwner}
use Rattle.theory_windows.specs.AnyOrder.{DrawnSame, DrawnAnyOrder, CoversAnyOrder}
use Rattle.theory_windows.specs.GrownPolygon.{EnoughByPolygon}
use Rattle.theory_windows.specs.FromLevel.{OneAcross, InnerFromLevel, HeldFromLevel}
use Rattle.theory_windows.specs.SearchSteps.{StartRight, StepRight, FinishRight}
use Rattle.theory_windows.specs.OpenTest.{OpenTested}
use Rattle.theory_windows.specs.OpenNumbers.{OpenNumbers}
use Rattle.theory_windows.specs.OpenStep.{OpenStep}
use Rattle.theory_windows.specs.EveryEdge.{FoundOrOpen, NoneOpen}
use Rattle.theory_windows.specs.Refusals.{DepthRefusal, AllDrawn, CountRefusal}
use Rattle.theory_windows.specs.Limits.{GoesOn, EndsWithin}
use Rattle.theory_windows.specs.WholeSearch.{SearchAnswers, SearchEnds}
use Rattle.theory_windows.specs.Level.{LevelTells, LiftsTell}

-- ---- of the plane
abbrev pub ClosedChainLaw : Points → Type 0
ClosedChainLaw P = ClosedChain P.real

abbrev pub ClosedChainsLaw : Points → Type 0
ClosedChainsLaw P = ClosedChains P.real

abbrev pub TriangleMeetsLaw : Points → Type 0
TriangleMeetsLaw P = TriangleMeets P.real

abbrev pub PolygonMeetsLaw : Points → Type 0
PolygonMeetsLaw P = PolygonMeets P.real

abbrev pub CutLaw : Points → Type 0
CutLaw P = CutMeets P.real

abbrev pub CutsLaw : Points → Type 0
CutsLaw P = CutsMeet P.real

abbrev pub RotationLaw : Points → Type 0
RotationLaw P = Rotation P.real

abbrev pub OutlineGluingLaw : Points → Type 0
OutlineGluingLaw P = Gluing P.real

-- ---- of dissected patches
abbrev pub WholesLaw : Points → Type 0
WholesLaw P = WholesCoverBox P.real (Placed P.ring.carrier)

abbrev pub WindowLaw : Points → Type 0
WindowLaw P = WindowTheorem P.real (Placed P.ring.carrier)

abbrev pub OutlineLaw : Points → Type 0
OutlineLaw P = KnownByOutline P.real (Placed P.ring.carrier)

abbrev pub OwnerLaw : Points → Type 0
OwnerLaw P = OneOwner P.real (Placed P.ring.carrier)

abbrev pub EnoughLaw : Points → Type 0
EnoughLaw P = EnoughByPolygon P.real (Placed P.ring.carrier)

abbrev pub DrawnSameLaw : Points → Type 0
DrawnSameLaw P = DrawnSame P.real (Placed P.ring.carrier)

abbrev pub DrawnOrderLaw : Points → Type 0
DrawnOrderLaw P = DrawnAnyOrder P.real (Placed P.ring.carrier)

abbrev pub CoversOrderLaw : Points → Type 0
CoversOrderLaw P = CoversAnyOrder P.real (Placed P.ring.carrier)

abbrev pub OneAcrossLaw : Points → Type 0
OneAcrossLaw P = OneAcross P.real (Placed P.ring.carrier)

abbrev pub InnerFromLevelLaw : Points → Type 0
InnerFromLevelLaw P = InnerFromLevel P.real (Placed P.ring.carrier)

abbrev pub HeldFromLevelLaw : Points → Type 0
HeldFromLevelLaw P = HeldFromLevel P.real (Placed P.ring.carrier)

-- ---- of the search
abbrev pub StartLaw : Points → Type 0
StartLaw P = StartRight P.real (Placed P.ring.carrier)

abbrev pub StepLaw : Points → Type 0
StepLaw P = StepRight P.real (Placed P.ring.carrier)

abbrev pub FinishLaw : Points → Type 0
FinishLaw P = FinishRight P.real (Placed P.ring.carrier)

abbrev pub OpenTestLaw : Points → Type 0
OpenTestLaw P = OpenTested P.real

abbrev pub OpenNumberLaw : Points → Type 0
OpenNumberLaw P = OpenNumbers P.real

abbrev pub OpenStepLaw : Points → Type 0
OpenStepLaw P = OpenStep P.real (Placed P.ring.carrier)

abbrev pub FoundOrOpenLaw : Points → Type 0
FoundOrOpenLaw P = FoundOrOpen P.real (Placed P.ring.carrier)

abbrev pub NoneOpenLaw : Points → Type 0
NoneOpenLaw P = NoneOpen P.real (Placed P.ring.carrier)

abbrev pub SearchAnswersLaw : Points → Type 0
SearchAnswersLaw P = SearchAnswers P.real (Placed P.ring.carrier)

abbrev pub SearchEndsLaw : Points → Type 0
SearchEndsLaw P = SearchEnds P.real (Placed P.ring.carrier)

abbrev pub DepthRefusalLaw : Points → Type 0
DepthRefusalLaw P = DepthRefusal P.real (Placed P.ring.carrier)

abbrev pub AllDrawnLaw : Points → Type 0
AllDrawnLaw P = AllDrawn P.real (Placed P.ring.carrier)

abbrev pub CountRefusalLaw : Points → Type 0
CountRefusalLaw P = CountRefusal P.real (Placed P.ring.carrier)

abbrev pub GoesOnLaw : Points → Type 0
GoesOnLaw P = GoesOn P.real (Placed P.ring.carrier)

abbrev pub EndsWithinLaw : Points → Type 0
EndsWithinLaw P = EndsWithin P.real (Placed P.ring.carrier)

-- ---- of digits
abbrev pub LevelLaw : Type 0
LevelLaw = LevelTells Step

abbrev pub LiftLevelLaw : Type 0
LiftLevelLaw = LiftsTell Step
