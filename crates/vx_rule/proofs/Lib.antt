pub mod LighterLemmas
pub mod PresentLemmas
pub mod PicksLemmas
pub mod RangesLemmas
pub mod FiltersLemmas
pub mod FunctionsLemmas
pub mod MasksLemmas
mod StructRowsLemmas
mod ItemsLemmas
mod StructsLemmas
mod ItemNodesLemmas
pub mod DictsLemmas
pub mod CastsLemmas
pub mod KeepsLemmas
pub mod PushedLemmas
pub mod PushLemmas
mod AnswersLemmas
mod StopsLemmas
mod SlotsLemmas
mod CallsLemmas
mod FitsLemmas
mod QuietLemmas
mod ChildrenLemmas
mod ConstantsLemmas
mod CombinedLemmas
mod MaskedLemmas
mod WeighingsLemmas
mod StructCastsLemmas
mod DictFunctionsLemmas
