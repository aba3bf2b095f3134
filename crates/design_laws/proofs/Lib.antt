pub mod EmptyFindingLists
pub mod LoopScopes
pub mod TypedExpressions
pub mod SoundActions
pub mod SoundTransitions
pub mod InitialStates
pub mod BoundsAndRates
pub mod AllowedAdaptors
pub mod PlacedNames
pub mod PairwiseDistinctNames
pub mod DeclaredNameOrder
pub mod IdentifiersAreWords
pub mod DistinctPackageNames
pub mod PackageNames
pub mod BehaviourNames
pub mod KindsAndFirstValues
pub mod DeclaredStates
pub mod SoundThreadBehaviour
pub mod SoundInstanceParts
pub mod InstanceBehaviours
pub mod PropertyTimes
pub mod InstanceBoundsAndRates
pub mod PathTexts
pub mod MatchedLists
pub mod DesignComponents
pub mod NoViolations
pub mod InstancesFromParts
pub mod UniqueLists
pub mod AsymmetricOrders
pub mod UniqueSorts
pub mod UniqueInstancesAndDesigns
pub mod NamesFromTokens
pub mod AcceptedPackageDesigns
pub mod PortAndThreadNumbers
pub mod ChainTypes
pub mod CarriedChainsInDesigns
pub mod LinkFeedAndTapRules
pub mod LinkOrderAndRootPortNames
pub mod UniqueChainStarts
pub mod DesignLinksFeedsAndTaps
pub mod AcceptedInstances
pub mod DesignExistenceAndRules
pub mod DistinctFaultPlaces
pub mod DistinctExpressionFaultPlaces
pub mod DistinctActionFaultPlaces
pub mod PossibleNameFaults
pub mod DistinctAnnexFaultPlaces
pub mod DistinctPackageFaultPlaces
pub mod FaultCoverageRules
pub mod CoveredNameFaults
pub mod CoveredDuplicates
pub mod FaultsAtOnePlace
pub mod UniqueFirstFaults
pub mod LeastNumbers
mod InsertionSort
mod DistinctNumbers
mod ReachedDeclarations
mod ContainmentOrders
mod MarkedPaths
mod FaultSearches
mod FirstRecursion
mod InsidePortSetExistence
mod OutsidePortSetExistence
mod FirstConnectionFault
mod FirstFaultOrSoundPackage
mod IncomingLinkOrFeed
mod LinkAndFeedLists
mod OutPortSources
mod TapLists
mod FirstExceededLimits
pub mod FirstFaultOrInstance
mod ListsWithoutMemoryFault
mod AnnexesWithoutMemoryFault
pub mod PackagesWithoutMemoryFault
pub mod SortedFindings
pub mod InstanceBehaviourRules
pub mod ElementAndPairwiseProperties
pub mod ChainEndPortsInDesigns
